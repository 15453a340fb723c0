-- What the page of a scene tells, run over a medium of these rules.
use Rattle.std.specs.Prelude.{◌≡◌, ℕ, ◌/◌, ◌%◌, ◌<◌, ◌≤◌, List, length, replicate, Ok, Err, Result}
use Rattle.element.specs.Algebra.{Algebra}
use Rattle.element.specs.Models.{force_algebra, depth_algebra, tags_algebra}
use Rattle.element.specs.declared.force.Force.{Force}
use Rattle.element.specs.declared.depth.Depth.{Depth}
use Rattle.element.specs.declared.tags.Tags.{Tags}
use Rattle.medium.specs.Calls.{Rules}
use Rattle.scene.specs.Cells.{Scene}
use Rattle.scene.specs.Layout.{scene_of}
use Rattle.scene.specs.Rules.{scene_rules, verdict}
use Rattle.scene.specs.declared.fault.SceneFault.{SceneFault}
use Rattle.forest.specs.Forest.{laid_copies, laid_edges}
use Rattle.laying.specs.declared.fault.LayFault.TheVariants.{Copies, Edges}
use Rattle.protocol.specs.Books.{Book}
use Rattle.protocol.specs.Promise.{EveryRunKeepsThePromise}
use Rattle.protocol.specs.Runs.{laid, no_link, no_tally}
use Rattle.sums.specs.Sums.{loaded_copies}
use Rattle.exchange.specs.Calls.{FirstWaiting, IdleBefore}
use Rattle.exchange.specs.Going.{Kept}
use Rattle.protocol.specs.declared.fault.RunFault.TheVariants.{Waiting}
use Rattle.circles.specs.Circles.{circles}
use Rattle.circles.specs.Chains.{Snapshot, snapshot, moment_at, CirclesUntil, all_settled}
use Rattle.cabinet.specs.Pages.{listing, refused_page}
use Rattle.refusals.specs.declared.refusal.Refusal.TheVariants.{Scene as SceneRefused, Lay, Run}

-- every run of every scene keeps the promise, whichever of the three types its elements have
pub record EveryRunOfEachKind : Type 0 where
  pub forces : EveryRunKeepsThePromise Force force_algebra
  pub depths : EveryRunKeepsThePromise Depth depth_algebra
  pub tags : EveryRunKeepsThePromise Tags tags_algebra

-- for how many records of each sort there is memory, and how many circles are made at most
abbrev pub record_room : ℕ
record_room = 4096

abbrev pub circle_limit : ℕ
circle_limit = 100000

-- just after start: nothing counted, each copy at its board's own sum, the medium as it was handed in
abbrev pub started : {M D : Type 0} → Algebra M → Scene → D → Snapshot M D
started A s d = snapshot no_tally (replicate 64 no_link) (loaded_copies A s (laid_copies s)) d

-- the page is the listing of where circles led to from a fresh start over the medium d, made until all boards are
-- settled or as many were made as allowed; with all that is promised of a run
pub record Listed {M D : Type 0} (A : Algebra M) (R : Rules D) (s : Scene) (d : D) (page : List ℕ) : Type 0 where
  pub end : Snapshot M D
  pub run : CirclesUntil A R (laid A s) (all_settled (laid A s)) circle_limit (started A s d) end
  pub book : Book
  pub losses : ℕ
  pub kept : Kept A s (circles s.boards run.circles) (moment_at R end) book losses
  pub told : page ≡ listing A s (laid_copies s) (laid_edges s) (moment_at R end)

-- over a medium with nothing under way the run is listed; else the first lane with a frame is refused
pub data RunTold {M D : Type 0} (A : Algebra M) (R : Rules D) (s : Scene) (d : D) (page : List ℕ) : Type 0 where
  fresh : IdleBefore (R.lanes d) 64 → Listed A R s d page → RunTold A R s d page
  waits : (k : ℕ) → FirstWaiting (R.lanes d) k → page ≡ refused_page (Run (Waiting (k / 8) (k % 8)))
      → RunTold A R s d page

-- each kind has its elements
pub record KindTold {D : Type 0} (R : Rules D) (s : Scene) (d : D) (page : List ℕ) : Type 0 where
  pub forces : s.kind ≡ 1 → RunTold force_algebra R s d page
  pub depths : s.kind ≡ 2 → RunTold depth_algebra R s d page
  pub tags : s.kind ≡ 3 → RunTold tags_algebra R s d page

-- the plan is run if there is room for its records
pub record SceneTold {D : Type 0} (R : Rules D) (s : Scene) (d : D) (page : List ℕ) : Type 0 where
  pub many_copies : record_room < length (laid_copies s)
      → page ≡ refused_page (Lay (Copies (length (laid_copies s))))
  pub many_edges : length (laid_copies s) ≤ record_room → record_room < length (laid_edges s)
      → page ≡ refused_page (Lay (Edges (length (laid_edges s))))
  pub runs : length (laid_copies s) ≤ record_room → length (laid_edges s) ≤ record_room → KindTold R s d page

-- by the verdict on the bytes: the scene's fault, or what they say
abbrev pub VerdictTold : {D : Type 0} → Rules D → Result (Unit {0}) SceneFault → Scene → D → List ℕ → Type 0
VerdictTold R (Err f) s d page = page ≡ refused_page (SceneRefused f)
VerdictTold R (Ok _) s d page = SceneTold R s d page

abbrev pub PageTold : {D : Type 0} → Rules D → List ℕ → D → List ℕ → Type 0
PageTold R bytes d page = VerdictTold R (verdict (scene_rules bytes)) (scene_of bytes) d page
