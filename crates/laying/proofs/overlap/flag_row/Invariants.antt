-- The vertices below v are flagged.
use Rattle.std.proofs.Common.{◌≡◌, length}
use Rattle.laying.specs.BoardSets.{has, board_set_at}
use Rattle.laying.specs.Rows.{Tells}
use Rattle.laying.proofs.overlap.flag_row.Given as goal

abbrev pub invariant-loop-v : goal.invariant-loop-v
invariant-loop-v l = (length l.row ≡ 1024) × Tells l.row l.v (λ k. has (board_set_at l.sets k) l.p)
