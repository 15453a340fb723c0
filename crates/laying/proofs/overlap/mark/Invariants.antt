-- The boards of the cells below c have come to their corners.
use Rattle.std.proofs.Common.{◌≡◌, ℕ, ◌<◌, Bool, ◌&&◌, eqb, length}
use Rattle.forest.specs.Forest.{any}
use Rattle.laying.specs.BoardSets.{has, TellsAll}
use Rattle.laying.specs.Rows.{some}
use Rattle.laying.specs.Tables.{row}
use Rattle.laying.specs.declared.board_set.BoardSet.{BoardSet}
use Rattle.laying.proofs.overlap.mark.Given as goal

abbrev pub invariant-loop-c : goal.invariant-loop-c
invariant-loop-c g l =
    (length l.marked ≡ 1024)
    × ((t : ℕ → ℕ → Bool)
    → ((c : ℕ) (found : BoardSet)
    → c < length l.corners
    → goal.F-post g l.boards c found
    → (p : ℕ)
    → has found p ≡ t p c)
    → TellsAll l.marked 1024 (λ p v. some (λ c. t p c && any (λ x. eqb x v) (row l.corners c)) l.c))
