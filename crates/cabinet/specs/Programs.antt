-- What the two programs print: pages over media of their own, which are opened empty.
use Rattle.std.specs.Prelude.{◌≡◌, ℕ, ◌≤◌, List, ◌++◌, length, Ok}
use Rattle.std.specs.List.{flat_map, range_with_len}
use Rattle.element.specs.Algebra.{Algebra}
use Rattle.element.specs.Models.{force_algebra, depth_algebra, tags_algebra}
use Rattle.medium.specs.Calls.{Rules}
use Rattle.medium.specs.Held.{queue_lanes, queue_rules}
use Rattle.medium.specs.Lanes.{empty_lanes}
use Rattle.medium.specs.Quotas.{below_quota, limit_of, quota_rules}
use Rattle.medium.specs.Scripts.{below_script, next_of, script_rules}
use Rattle.medium.specs.declared.queue.Queue.{Queue}
use Rattle.medium.specs.declared.quota.Quota.{Quota}
use Rattle.medium.specs.declared.script.Script.{Script}
use Rattle.scene.specs.Cells.{Scene}
use Rattle.scene.specs.Layout.{scene_of}
use Rattle.scene.specs.Rules.{scene_rules, verdict}
use Rattle.scene.specs.Sums.{undivided}
use Rattle.plan.specs.Starts.{copies_on}
use Rattle.forest.specs.Forest.{laid_copies, laid_edges}
use Rattle.protocol.specs.declared.tally.Report.TheVariants.{Settled}
use Rattle.protocol.specs.declared.tally.Tally.{Tally}
use Rattle.listing.specs.Lines.{board_line, copy_line}
use Rattle.cabinet.specs.Listed.{PageTold, record_room}
use Rattle.cabinet.specs.Pages.{head_page, numbers_of}

-- board p is settled, and each of its copies holds the undivided total of its vertex
abbrev pub settled_board : {M : Type 0} → Algebra M → Scene → ℕ → List ℕ
settled_board A s p =
    board_line p Settled
    ++ flat_map (λ c. copy_line c (A.pack (undivided A s c.vertex))) (copies_on (laid_copies s) p)

-- the listing of a scene all of whose boards are settled: but for the tally's line it is decided by the scene alone
abbrev pub settled_listing : {M : Type 0} → Algebra M → Scene → Tally → List ℕ
settled_listing A s t =
    head_page (numbers_of s (laid_copies s) (laid_edges s)) t
    ++ flat_map (settled_board A s) (range_with_len 0 s.boards)

-- the page lists every board settled, whatever the tally
abbrev pub ListsSettled : {M : Type 0} → Algebra M → Scene → List ℕ → Type 0
ListsSettled A s page = (t : Tally) × (page ≡ settled_listing A s t)

-- each kind has its elements
pub record KindSettles (s : Scene) (page : List ℕ) : Type 0 where
  pub forces : s.kind ≡ 1 → ListsSettled force_algebra s page
  pub depths : s.kind ≡ 2 → ListsSettled depth_algebra s page
  pub tags : s.kind ≡ 3 → ListsSettled tags_algebra s page

-- a scene that is accepted, and whose plan there is room for, is listed settled
abbrev pub AlwaysSettles : List ℕ → List ℕ → Type 0
AlwaysSettles bytes page = verdict (scene_rules bytes) ≡ Ok tt
    → length (laid_copies (scene_of bytes)) ≤ record_room → length (laid_edges (scene_of bytes)) ≤ record_room
    → KindSettles (scene_of bytes) page

-- the medium of `halo`: a quota over a queue
abbrev pub halo_rules : Rules (Quota Queue)
halo_rules = quota_rules queue_rules

-- the quota lets 8 frames wait in a lane, and none waits
pub record IsOpened (d : Quota Queue) : Type 0 where
  pub limit : limit_of d ≡ 8
  pub empty : queue_lanes (below_quota d) ≡ empty_lanes

-- a page that `halo` may print for these bytes
pub record HaloPage (bytes page : List ℕ) : Type 0 where
  pub medium : Quota Queue
  pub opened : IsOpened medium
  pub told : PageTold halo_rules bytes medium page

-- the medium of `halo-rough`: a script over that of `halo`
abbrev pub rough_rules : Rules (Script (Quota Queue))
rough_rules = script_rules halo_rules

-- a page that `halo-rough` may print for these bytes: no put was made of the script yet
pub record RoughPage (bytes page : List ℕ) : Type 0 where
  pub medium : Script (Quota Queue)
  pub first : next_of medium ≡ 0
  pub opened : IsOpened (below_script medium)
  pub told : PageTold rough_rules bytes medium page

-- for the same bytes there is one page alone
abbrev pub IsOnePage : (List ℕ → List ℕ → Type 0) → Type 0
IsOnePage Page = (bytes x y : List ℕ) → Page bytes x → Page bytes y → x ≡ y
