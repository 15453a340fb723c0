-- What the calls of a run answer, and what they leave.
use Rattle.std.specs.Prelude.{◌≡◌, ℕ, ◌/◌, ◌%◌, ◌<◌, ◌≤◌, ◌⊎◌, cond, List, [], length, Some, None, Ok, Err}
use Rattle.std.specs.Prelude.{Option, Result, nat_le, nat_lt}
use Rattle.std.specs.Option.{option_or}
use Rattle.element.specs.Algebra.{Algebra}
use Rattle.medium.specs.Lanes.{Lanes}
use Rattle.plan.specs.Links.{shape}
use Rattle.plan.specs.declared.records.CopyRecord.{CopyRecord}
use Rattle.plan.specs.declared.records.Edge.{Edge}
use Rattle.protocol.specs.Runs.{Moment, Turn, turn_fault, seen, counts}
use Rattle.protocol.specs.declared.tally.TurnCounts.{TurnCounts}
use Rattle.protocol.specs.declared.fault.RunFault.{RunFault}
use Rattle.protocol.specs.declared.fault.RunFault.TheVariants.{Short, Waiting, Board, Early}

-- an accepted turn is a turn by the rules and answers its four numbers; a refused one leaves all as it was
abbrev pub TurnAnswers : {M : Type 0} → Algebra M → ℕ → List CopyRecord → List Edge → ℕ → Moment M → Moment M
    → Result TurnCounts RunFault → Type 0
TurnAnswers A boards copies edges p m m' (Ok n) =
    (turn_fault boards copies p m ≡ None)
    × Turn A (shape boards edges) p m m'
    × (n ≡ counts A (shape boards edges) (seen A m) (seen A m') p)
TurnAnswers A boards copies edges p m m' (Err f) = (turn_fault boards copies p m ≡ Some f) × (m' ≡ m)

-- lanes are counted by sender, then receiver; none before number k holds a frame
abbrev pub IdleBefore : Lanes → ℕ → Type 0
IdleBefore lanes k = (m : ℕ) → m < k → lanes (m / 8) (m % 8) ≡ []

-- lane number k is the first in which a frame waits
pub record FirstWaiting (lanes : Lanes) (k : ℕ) : Type 0 where
  pub a_lane : k < 64
  pub idle : IdleBefore lanes k
  pub waits : 0 < length (lanes (k / 8) (k % 8))

-- a frame waits in some lane: the first such lane is named
abbrev pub WaitingFault : Lanes → RunFault → Type 0
WaitingFault lanes f = (k : ℕ) × FirstWaiting lanes k × (f ≡ Waiting (k / 8) (k % 8))

-- why a run does not start: too little memory for the plan's copies, or else a frame that waits
abbrev pub StartFault : List CopyRecord → ℕ → Lanes → RunFault → Type 0
StartFault copies room lanes f =
    ((room < length copies) × (f ≡ Short (length copies))) ⊎ ((length copies ≤ room) × WaitingFault lanes f)

-- why copies are not shown: too little memory for the plan's copies, then no such board
abbrev pub show_fault : ℕ → List CopyRecord → ℕ → ℕ → Option RunFault
show_fault boards copies room p =
    cond (nat_le (length copies) room) (cond (nat_lt p boards) None (Some (Board p))) (Some (Short (length copies)))

-- why a run is not ended and shown: what is against showing, then the lowest board that is not settled
abbrev pub finish_fault : ℕ → List CopyRecord → ℕ → ℕ → ℕ → Option RunFault
finish_fault boards copies room p unsettled =
    option_or (show_fault boards copies room p) (cond (nat_lt unsettled boards) (Some (Early unsettled)) None)
