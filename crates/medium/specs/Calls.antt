-- Calls of a medium, one after the other, and what its rules make of them.
use Rattle.std.specs.Prelude.{◌≡◌, ◌≢◌, ℕ, Bool, true, false, List, [], ◌∷◌, ◌++◌}
use Rattle.medium.specs.Lanes.{Lanes, appended, empty_lanes, is_lane, shortened}
use Rattle.medium.specs.Puts.{Puts, Takes}
use Rattle.medium.specs.declared.frame.Frame.{Frame}

-- the rules of a medium: its lanes, and what it says of one take and of one put
pub record Rules (D : Type 0) : Type 1 where
  pub lanes : D → Lanes
  pub takes : Takes D
  pub puts : Puts D

abbrev pub rules_of : {D : Type 0} → (D → Lanes) → Takes D → Puts D → Rules D
rules_of lanes takes puts = record { lanes = lanes; takes = takes; puts = puts }

-- what may be asked of a medium that changes it, by the lane's two boards
pub data Call : Type 0 where
  take_call : (from to : ℕ) → Call
  put_call : (from to : ℕ) (frame : Frame) → Call

-- whether a call puts
abbrev pub is_put : Call → Bool
is_put (take_call from to) = false
is_put (put_call from to f) = true

module _ {D : Type 0} (R : Rules D) where
  -- one call leads from d to e, by what is said of every medium and by what this one says of itself
  abbrev pub Leads : Call → D → D → Type 0
  Leads (take_call from to) d e = (R.lanes e ≡ shortened (R.lanes d) from to) × R.takes d from to e
  Leads (put_call from to f) d e = (k : ℕ) × (R.lanes e ≡ appended (R.lanes d) from to f k) × R.puts d from to f k e

  -- these calls, in this order, and no other, lead from d
  pub data Calls (d : D) : List Call → D → Type 0 where
    no_call : Calls d [] d
    one_call : (cs : List Call) (c : Call) (e f : D) → Calls d cs e → Leads c e f → Calls d (cs ++ c ∷ []) f

-- no calls tell d from e: after the same calls of both the same frames wait in each lane
abbrev pub LooksLike : {D E : Type 0} → Rules D → D → Rules E → E → Type 0
LooksLike {D} {E} R d S e = (cs : List Call) (d' : D) (e' : E)
    → Calls R d cs d' → Calls S e cs e' → R.lanes d' ≡ S.lanes e'

-- the rules leave nothing open that a later call can see
abbrev pub IsDecided : {D : Type 0} → Rules D → D → Type 0
IsDecided R d = LooksLike R d R d

-- no calls tell it from any other value in whose lanes no frame waits
abbrev pub LooksLikeEachEmpty : {D : Type 0} → Rules D → D → Type 0
LooksLikeEachEmpty {D} R d = (e : D) → R.lanes e ≡ empty_lanes → LooksLike R d R e

-- a put to a lane in which no frame waits leaves one at least
abbrev pub FillsEmptyLanes : {D : Type 0} → Rules D → Type 0
FillsEmptyLanes {D} R = (d e : D) (from to : ℕ) (f : Frame) (k : ℕ) → is_lane from to ≡ true
    → R.lanes d from to ≡ [] → R.puts d from to f k e → k ≢ 0
