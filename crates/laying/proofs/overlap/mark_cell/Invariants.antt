-- The boards have come to the corners so far.
use Rattle.std.proofs.Common.{◌≡◌, ◌||◌, ◌&&◌, eqb, length, take}
use Rattle.forest.specs.Forest.{any}
use Rattle.laying.specs.BoardSets.{has, board_set_at, TellsAll}
use Rattle.laying.proofs.overlap.mark_cell.Given as goal

abbrev pub invariant-loop-v : goal.invariant-loop-v
invariant-loop-v l =
    (length l.marked ≡ 1024)
    × TellsAll
    l.marked
    1024
    (λ p k. has (board_set_at l.initial.marked k) p
    || (has l.boards p && any (λ x. eqb x k) (take l.v-index l.corners)))
