-- One vertex.
use Rattle.std.proofs.Common.{◌||◌, ◌&&◌, eqb, ap, ◌∙◌, arith}
use Rattle.laying.specs.BoardSets.{has, board_set_at}
use Rattle.laying.proofs.BoardSets.{added}
use Rattle.laying.proofs.overlap.add.Goals as goal

pub returns : goal.returns
returns c =
    λ p k h.
    let marked = c.args.marked.now in
    let come = has c.args.boards p in
    added marked c.from-v.result k p c.union.result come (omega arith) (c.union.ensures p)
    ∙ ap (λ x. has (board_set_at marked k) p || (come && eqb x k)) c.from-v.ensures
