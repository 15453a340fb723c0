-- Circles of turns, each board once, ascending: what the calls that make them answer, and what they leave.
use Rattle.std.specs.Prelude.{◌≡◌, ℕ, zero, suc, ◌+◌, ◌<◌, ◌≤◌, Bool, true, false, cond, List, [], ◌++◌, length}
use Rattle.std.specs.Prelude.{Option, Some, None, Ok, Err, Result, nat_le}
use Rattle.std.specs.List.{range_with_len}
use Rattle.std.specs.Option.{option_or}
use Rattle.element.specs.Algebra.{Algebra}
use Rattle.medium.specs.Calls.{Rules}
use Rattle.plan.specs.Links.{shape}
use Rattle.plan.specs.declared.records.CopyRecord.{CopyRecord}
use Rattle.plan.specs.declared.records.Edge.{Edge}
use Rattle.protocol.specs.Faults.{turn_limit}
use Rattle.protocol.specs.Runs.{accepted_in}
use Rattle.protocol.specs.declared.fault.RunFault.{RunFault}
use Rattle.protocol.specs.declared.fault.RunFault.TheVariants.{Short, Turns}
use Rattle.circles.specs.Chains.{Snapshot, TurnsLead, CirclesLead}
use Rattle.circles.specs.declared.settle.Ending.{Ending}
use Rattle.circles.specs.declared.settle.Ending.TheVariants.{Met, Limit, OutOfTurns}
use Rattle.circles.specs.declared.settle.Settling.{Settling}

-- the boards that turn in k ascending circles
abbrev pub circles : ℕ → ℕ → List ℕ
circles boards zero = []
circles boards (suc k) = circles boards k ++ range_with_len 0 boards

-- too little memory for the plan's copies
abbrev pub room_fault : List CopyRecord → ℕ → Option RunFault
room_fault records room = cond (nat_le (length records) room) None (Some (Short (length records)))

-- why a circle is refused after so many turns: too little memory for the plan's copies, then too few turns left for all
-- boards
abbrev pub circle_fault : ℕ → List CopyRecord → ℕ → ℕ → Option RunFault
circle_fault boards records room turns =
    option_or (room_fault records room) (cond (nat_le (turns + boards) turn_limit) None (Some Turns))

module _ {M D : Type 0} (A : Algebra M) (R : Rules D) (boards : ℕ) (records : List CopyRecord) (edges : List Edge)
  where
    -- one turn of each board, ascending; refused, all stays as it was
    abbrev pub CircleAnswers : Snapshot M D → Snapshot M D → Result (Unit {0}) RunFault → Type 0
    CircleAnswers x y (Ok _) =
        (circle_fault boards records (length x.copies) x.tally.turns ≡ None)
        × TurnsLead A R (shape boards edges) x boards y
    CircleAnswers x y (Err f) = (circle_fault boards records (length x.copies) x.tally.turns ≡ Some f) × (y ≡ x)

    -- why no further circle was made at y, after k: the test holds; or as many were made as allowed; or too few turns
    -- are left for all boards
    abbrev pub EndsBy : ((ℕ → ℕ → ℕ) → Bool) → ℕ → ℕ → Snapshot M D → Ending → Type 0
    EndsBy met limit k y Met = met (accepted_in y.links) ≡ true
    EndsBy met limit k y Limit = (met (accepted_in y.links) ≡ false) × (k ≡ limit)
    EndsBy met limit k y OutOfTurns =
        (met (accepted_in y.links) ≡ false) × (k < limit) × (turn_limit < y.tally.turns + boards)

    -- circles until the test holds, or as many as allowed, or as there are turns for; refused, all stays as it was
    abbrev pub SettleAnswers : ((ℕ → ℕ → ℕ) → Bool) → ℕ → Snapshot M D → Snapshot M D → Result Settling RunFault
        → Type 0
    SettleAnswers met limit x y (Ok e) =
        (room_fault records (length x.copies) ≡ None)
        × (e.circles ≤ limit)
        × CirclesLead A R (shape boards edges) met x e.circles y
        × EndsBy met limit e.circles y e.ending
    SettleAnswers met limit x y (Err f) = (room_fault records (length x.copies) ≡ Some f) × (y ≡ x)
