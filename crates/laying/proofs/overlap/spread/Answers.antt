-- Each cell marks the boards at its corners.
use Rattle.std.proofs.Common.{rules}
use Rattle.forest.specs.Forest.{any}
use Rattle.laying.specs.BoardSets.{has, board_set_at}
use Rattle.laying.specs.Tables.{row}
use Rattle.laying.proofs.overlap.spread.Goals as goal

pub returns : goal.returns
returns c =
    c.mark.ensures
    (λ p n. any (λ v. has (board_set_at c.args.near.now v) p) (row c.args.corners.now n))
    (λ n found l q. search rules)
