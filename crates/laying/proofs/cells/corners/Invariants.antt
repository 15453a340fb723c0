-- The cells below c are read.
use Rattle.std.proofs.Common.{◌≡◌, ℕ, ◌<◌, length}
use Rattle.laying.specs.Seen.{cell_of}
use Rattle.laying.specs.Tables.{row}
use Rattle.laying.proofs.cells.corners.Given as goal

abbrev pub invariant-loop-c : goal.invariant-loop-c
invariant-loop-c l =
    (length l.corners ≡ 1024) × ((k : ℕ) → k < l.c → row l.corners k ≡ (cell_of l.scene k).corners)
