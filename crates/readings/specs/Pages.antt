-- The page of any bytes, computed over a medium; and that the programs' pages are none but these.
use Rattle.std.specs.Prelude.{◌≡◌, ℕ, cond, List, length, ◌==◌, nat_lt, Ok, Err, Result}
use Rattle.element.specs.Models.{force_algebra, depth_algebra, tags_algebra}
use Rattle.medium.specs.Calls.{LooksLike}
use Rattle.medium.specs.Scripts.{below_script, next_of}
use Rattle.medium.specs.declared.queue.Queue.{Queue}
use Rattle.medium.specs.declared.quota.Quota.{Quota}
use Rattle.medium.specs.declared.script.Script.{Script}
use Rattle.scene.specs.Cells.{Scene}
use Rattle.scene.specs.Layout.{scene_of}
use Rattle.scene.specs.Rules.{scene_rules, verdict}
use Rattle.scene.specs.declared.fault.SceneFault.{SceneFault}
use Rattle.forest.specs.Forest.{laid_copies, laid_edges}
use Rattle.laying.specs.declared.fault.LayFault.TheVariants.{Copies, Edges}
use Rattle.cabinet.specs.Listed.{record_room, PageTold}
use Rattle.cabinet.specs.Pages.{refused_page}
use Rattle.refusals.specs.declared.refusal.Refusal.TheVariants.{Scene as SceneRefused, Lay}
use Rattle.cabinet.specs.Programs.{halo_rules, rough_rules, IsOpened, HaloPage, RoughPage}
use Rattle.readings.specs.Media.{Medium, computed_rules, fresh_lanes, plain, rough}
use Rattle.readings.specs.Runs.{listed_over}

-- the listing of a scene, of whichever of the three kinds it is
abbrev pub listed_by_kind : Medium → Scene → List ℕ
listed_by_kind medium s =
    cond (s.kind == 1) (listed_over force_algebra s medium)
    (cond (s.kind == 2) (listed_over depth_algebra s medium) (listed_over tags_algebra s medium))

-- a plan of so many copies and edges is listed so if there is room for its records; else it is refused
abbrev pub laid_page : ℕ → ℕ → List ℕ → List ℕ
laid_page copies edges listed =
    cond (nat_lt record_room copies) (refused_page (Lay (Copies copies)))
    (cond (nat_lt record_room edges) (refused_page (Lay (Edges edges))) listed)

-- by the verdict on its bytes a scene's plan is laid, or the first fault is told
abbrev pub page_by : Result (Unit {0}) SceneFault → Scene → List ℕ → List ℕ
page_by (Ok _) s listed = laid_page (length (laid_copies s)) (length (laid_edges s)) listed
page_by (Err f) s listed = refused_page (SceneRefused f)

-- the page of these bytes over this medium
abbrev pub page_over : Medium → List ℕ → List ℕ
page_over medium bytes =
    page_by (verdict (scene_rules bytes)) (scene_of bytes) (listed_by_kind medium (scene_of bytes))

-- by the rules of its medium it is a page that may be told
abbrev pub PagesByTheRules : Type 0
PagesByTheRules =
    (medium : Medium) (bytes : List ℕ) → PageTold (computed_rules medium) bytes fresh_lanes (page_over medium bytes)

-- no calls tell the computed media from those of the programs
pub record MediaLookAlike : Type 0 where
  pub plain_alike : (d : Quota Queue) → IsOpened d → LooksLike (computed_rules plain) fresh_lanes halo_rules d
  pub rough_alike : (d : Script (Quota Queue)) → next_of d ≡ 0 → IsOpened (below_script d)
      → LooksLike (computed_rules rough) fresh_lanes rough_rules d

-- so that each program has one page for any bytes, the computed one
pub record PagesAreComputed : Type 0 where
  pub halo_pages : (bytes page : List ℕ) → HaloPage bytes page → page ≡ page_over plain bytes
  pub rough_pages : (bytes page : List ℕ) → RoughPage bytes page → page ≡ page_over rough bytes
