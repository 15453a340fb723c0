-- The rows of the boards below p are flagged.
use Rattle.std.proofs.Common.{◌≡◌, ℕ, ◌<◌, length}
use Rattle.laying.specs.BoardSets.{has, board_set_at}
use Rattle.laying.specs.Rows.{Tells}
use Rattle.laying.specs.Tables.{row}
use Rattle.laying.proofs.overlap.flag_all.Given as goal

abbrev pub invariant-loop-p : goal.invariant-loop-p
invariant-loop-p l =
    (length l.rows ≡ 8)
    × ((q : ℕ) → q < l.p → Tells (row l.rows q) 1024 (λ v. has (board_set_at l.sets v) q))
