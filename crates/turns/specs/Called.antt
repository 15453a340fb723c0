-- The calls that a turn makes of its medium.
use Rattle.std.specs.Prelude.{ℕ, zero, suc, ◌+◌, Bool, cond, not, ◌&&◌, ◌==◌, List, [], ◌∷◌, ◌++◌, length, replicate}
use Rattle.element.specs.Algebra.{Algebra}
use Rattle.medium.specs.Calls.{Call, take_call, put_call}
use Rattle.medium.specs.Lanes.{Lanes}
use Rattle.medium.specs.declared.frame.Frame.{Frame}
use Rattle.plan.specs.Links.{Shape}
use Rattle.protocol.specs.Turns.{State, owes, put_frame}

-- board p takes from the lane of each other board below k, ascending: once for each frame that waits there, and once
-- more, which finds none
abbrev pub take_calls : Lanes → ℕ → ℕ → List Call
take_calls lanes p zero = []
take_calls lanes p (suc q) =
    take_calls lanes p q ++ cond (q == p) [] (replicate (length (lanes q p) + 1) (take_call q p))

-- board p puts one frame to each other board below k to which one is due, ascending
abbrev pub put_calls : (ℕ → Bool) → (ℕ → Frame) → ℕ → ℕ → List Call
put_calls due frame p zero = []
put_calls due frame p (suc q) =
    put_calls due frame p q ++ cond (not (q == p) && due q) (put_call p q (frame q) ∷ []) []

-- the calls of a turn of p that leads from s to u
abbrev pub turn_calls : {M : Type 0} → Algebra M → Shape → State M → State M → ℕ → List Call
turn_calls A P s u p = take_calls s.lane p P.boards ++ put_calls (owes A P s u p) (put_frame A P s u p) p P.boards
