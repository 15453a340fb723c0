-- The boards at the corners so far.
use Rattle.std.proofs.Common.{◌≡◌, ℕ, take}
use Rattle.forest.specs.Forest.{any}
use Rattle.laying.specs.BoardSets.{has, board_set_at}
use Rattle.laying.proofs.overlap.at_corners.Given as goal

abbrev pub invariant-loop-v : goal.invariant-loop-v
invariant-loop-v l = (p : ℕ) → has l.boards p ≡ any (λ k. has (board_set_at l.near k) p) (take l.v-index l.corners)
