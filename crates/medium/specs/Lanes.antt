-- The lanes of a medium, and what a put and a take make of them.
use Rattle.std.specs.Prelude.{◌≡◌, ℕ, ◌+◌, ◌*◌, Bool, true, false, cond, ◌&&◌, List, [], ◌∷◌, ◌++◌, drop, replicate}
use Rattle.std.specs.Prelude.{Option, Some, None, ◌==◌, nat_lt}
use Rattle.medium.specs.declared.frame.Frame.{Frame}

-- the frames waiting from the first board to the second, oldest first
abbrev pub Lanes : Type 0
Lanes = ℕ → ℕ → List Frame

-- a lane leads from a board below 8 to a board below 8
abbrev pub is_lane : ℕ → ℕ → Bool
is_lane p q = nat_lt p 8 && nat_lt q 8

-- the place of a lane among the 64
abbrev pub StandsAt : ℕ → ℕ → ℕ → Type 0
StandsAt from to at = (is_lane from to ≡ true) × (at ≡ 8 * from + to)

-- the lane from p to q is the one from `from` to `to`
abbrev pub same_lane : ℕ → ℕ → ℕ → ℕ → Bool
same_lane from to p q = p == from && q == to

-- k copies of the frame at the end of one lane; every other lane as it was
abbrev pub appended : Lanes → ℕ → ℕ → Frame → ℕ → Lanes
appended lanes from to f k p q = cond (same_lane from to p q) (lanes p q ++ replicate k f) (lanes p q)

-- where there is no lane, a put leaves no frame
abbrev pub Allowed : ℕ → ℕ → ℕ → Type 0
Allowed from to k = is_lane from to ≡ false → k ≡ 0

-- the oldest frame
abbrev pub first : List Frame → Option Frame
first [] = None
first (f ∷ fs) = Some f

-- one lane without its oldest frame; every other lane as it was
abbrev pub shortened : Lanes → ℕ → ℕ → Lanes
shortened lanes from to p q = cond (same_lane from to p q) (drop 1 (lanes p q)) (lanes p q)

-- one lane without its k oldest frames; every other lane as it was
abbrev pub drained : Lanes → ℕ → ℕ → ℕ → Lanes
drained lanes from to k p q = cond (same_lane from to p q) (drop k (lanes p q)) (lanes p q)

-- no frame waits anywhere
abbrev pub empty_lanes : Lanes
empty_lanes p q = []
