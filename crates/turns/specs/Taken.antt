-- What a turn answers, and what it leaves of links, copies and lanes; the tally is the caller's.
use Rattle.std.specs.Prelude.{◌≡◌, ℕ, ◌<◌, cond, ◌≢◌, List, [], length, get_or, Some, None, Ok, Err, Option, Result}
use Rattle.std.specs.Prelude.{nat_le, nat_lt, slice_index_or}
use Rattle.element.specs.Algebra.{Algebra}
use Rattle.medium.specs.Lanes.{Lanes}
use Rattle.plan.specs.Links.{shape, no_copy}
use Rattle.plan.specs.declared.records.CopyRecord.{CopyRecord}
use Rattle.plan.specs.declared.records.Edge.{Edge}
use Rattle.protocol.specs.declared.fault.RunFault.{RunFault}
use Rattle.protocol.specs.declared.fault.RunFault.TheVariants.{Short, Board}
use Rattle.protocol.specs.declared.tally.TurnCounts.{TurnCounts}
use Rattle.protocol.specs.Turns.{Turned}
use Rattle.protocol.specs.Runs.{Moment, seen, counts}

-- why a turn of p is not taken: no such board, then too little memory for the plan's copies
abbrev pub taking_fault : ℕ → List CopyRecord → ℕ → ℕ → Option RunFault
taking_fault boards records room p =
    cond (nat_lt p boards)
    (cond (nat_le (length records) room) None (Some (Short (length records))))
    (Some (Board p))

-- a turn that is taken follows the rules and answers its four numbers; one that is not leaves all as it was
abbrev pub TurnTaken : {M : Type 0} → Algebra M → ℕ → List CopyRecord → List Edge → ℕ → Moment M → Moment M
    → Result TurnCounts RunFault → Type 0
TurnTaken A boards records edges p m m' (Ok n) =
    (taking_fault boards records (length m.copies) p ≡ None)
    × Turned A (shape boards edges) (seen A m) (seen A m') p
    × (length m'.copies ≡ length m.copies)
    × (n ≡ counts A (shape boards edges) (seen A m) (seen A m') p)
TurnTaken A boards records edges p m m' (Err f) =
    (taking_fault boards records (length m.copies) p ≡ Some f) × (m' ≡ m)

-- a turn of p writes copies of p alone, and only by frames that wait for p as it begins
pub record OwnCopiesAlone {M : Type 0} (A : Algebra M) (boards : ℕ) (records : List CopyRecord) (p : ℕ)
    (lanes : Lanes) (copies copies' : List M) : Type 0 where
  pub others_stay : (c : ℕ) → (c < length records → (get_or records c no_copy).board ≢ p)
      → slice_index_or copies' c A.zero ≡ slice_index_or copies c A.zero
  pub by_frames_alone : ((q : ℕ) → q < boards → q ≢ p → lanes q p ≡ []) → copies' ≡ copies
