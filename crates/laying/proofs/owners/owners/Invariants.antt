-- The vertices below v have their owners.
use Rattle.std.proofs.Common.{◌≡◌, ℕ, ◌<◌, length, get_or, None}
use Rattle.laying.specs.BoardSets.{has, board_set_at}
use Rattle.laying.specs.Tables.{lowest_below}
use Rattle.laying.proofs.owners.owners.Given as goal

abbrev pub invariant-loop-v : goal.invariant-loop-v
invariant-loop-v l =
    (length l.owner-items ≡ 1024)
    × ((k : ℕ) → k < l.v → get_or l.owner-items k None ≡ lowest_below (has (board_set_at l.own k)) 8)
