-- What the rules say: of bytes, of the scene that they are, and of two forces.
use Rattle.std.specs.Prelude.{ℕ, List, map, length, ℤ, Ok, Err, Result}
use Rattle.std.specs.Int.{w32}
use Rattle.std.proofs.Common.{to_z}
use Rattle.std.specs.List.{range_with_len}
use Rattle.element.specs.Algebra.{Algebra}
use Rattle.element.specs.Models.{force, force_algebra, depth_algebra}
use Rattle.scene.specs.declared.fault.SceneFault.{SceneFault}
use Rattle.scene.specs.Cells.{Scene}
use Rattle.scene.specs.Faults.{fault_numbers}
use Rattle.scene.specs.Layout.{scene_of}
use Rattle.scene.specs.Rules.{verdict, scene_rules}
use Rattle.scene.specs.Sums.{undivided}
use Rattle.forest.specs.Forest.{laid_copies, laid_edges}
use Rattle.protocol.specs.Runs.{laid, accepted_in}
use Rattle.protocol.specs.Books.{report_by}
use Rattle.protocol.specs.declared.tally.Report.{Report}
use Rattle.cabinet.specs.Listed.{circle_limit}
use Rattle.listing.specs.Lines.{tally_line}
use Rattle.readings.specs.Media.{Medium}
use Rattle.readings.specs.Runs.{led_to, listed_over}

pub data Answer : Type 0 where
  -- a scene, whose plan has so many copies and edges
  accepted_scene : ℕ → ℕ → Answer
  -- no scene: the numbers of its first fault
  refused : List ℕ → Answer
  -- what the vertices come to, in their order
  totals : List ℕ → Answer
  -- the bytes of a listing
  lists : List ℕ → Answer
  -- what is reported of the boards
  reports : List Report → Answer
  -- one axis of a force: its word, and the number that this is with a sign
  force_axis : ℕ → ℤ → Answer

abbrev pub plan_size : Scene → Answer
plan_size s = accepted_scene (length (laid_copies s)) (length (laid_edges s))

abbrev pub verdict_on : Result (Unit {0}) SceneFault → Scene → Answer
verdict_on (Ok _) s = plan_size s
verdict_on (Err f) s = refused (fault_numbers f)

-- whether the bytes are a scene, and how large its plan is
abbrev pub check : List ℕ → Answer
check b = verdict_on (verdict (scene_rules b)) (scene_of b)

-- the undivided totals of a scene of depths
abbrev pub depths : Scene → Answer
depths s = totals (map (λ v. (undivided depth_algebra s v).value) (range_with_len 0 s.vertices))

-- the listing of a scene with elements of one type, run over this medium
abbrev pub list_over : {M : Type 0} → Algebra M → Medium → Scene → Answer
list_over A medium s = lists (listed_over A s medium)

-- the tally's line in the listing of a scene of depths
abbrev pub tally_over : Medium → Scene → Answer
tally_over medium s = lists (tally_line (led_to depth_algebra s medium circle_limit).tally)

-- what is reported of its boards after so many circles, or once all are settled
abbrev pub reports_within : ℕ → Medium → Scene → Answer
reports_within limit medium s =
    let m = led_to depth_algebra s medium limit in
    reports (map (report_by (laid depth_algebra s) (accepted_in m.links)) (range_with_len 0 s.boards))

abbrev pub signed : ℕ → Answer
signed word = force_axis word (to_z w32 word)

-- the first axis of two forces joined, which have that axis alone
abbrev pub join_axes : ℕ → ℕ → Answer
join_axes a b = signed (force_algebra.join (force a 0 0) (force b 0 0)).x
