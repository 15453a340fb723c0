-- How many frames a put appends, over the media of the two programs; and a medium that appends just as many.
use Rattle.std.specs.Prelude.{◌≡◌, ℕ, ◌+◌, ◌%◌, cond, length, ◌==◌}
use Rattle.medium.specs.Calls.{Rules, rules_of}
use Rattle.medium.specs.Fates.{entry, script_table}
use Rattle.medium.specs.Held.{queue_count}
use Rattle.medium.specs.Lanes.{Lanes, appended, empty_lanes}
use Rattle.medium.specs.declared.frame.Frame.{Frame}

-- by how many puts were made before, the lanes, the two boards, and the frame
abbrev pub Medium : Type 0
Medium = ℕ → Lanes → ℕ → ℕ → Frame → ℕ

-- Quota 8 over Queue
abbrev pub plain : Medium
plain n lanes from to f = queue_count lanes from to

-- the same put twice
abbrev pub twice : Medium
twice n lanes from to f =
    let one = plain n lanes from to f in one + plain n (appended lanes from to f one) from to f

-- Script over Quota 8 over Queue
abbrev pub rough : Medium
rough n lanes from to f =
    let code = entry (n % length script_table) in
    cond (code == 0) (plain n lanes from to f) (cond (code == 1) 0 (twice n lanes from to f))

-- lanes, and how many puts were made so far
pub record CountedLanes : Type 0 where
  pub puts : ℕ
  pub lanes : Lanes

abbrev pub counted_lanes : ℕ → Lanes → CountedLanes
counted_lanes puts lanes = record { puts = puts; lanes = lanes }

-- no put was made, and no frame waits
abbrev pub fresh_lanes : CountedLanes
fresh_lanes = counted_lanes 0 empty_lanes

-- a put is counted, and appends just as many frames as the computed medium says; a take is no put
abbrev pub computed_rules : Medium → Rules CountedLanes
computed_rules medium = rules_of (λ x. x.lanes)
    (λ x from to y. y.puts ≡ x.puts)
    (λ x from to f k y. (y.puts ≡ x.puts + 1) × (k ≡ medium x.puts x.lanes from to f))
