-- One corner more.
use Rattle.std.proofs.Common.{ℕ, Bool, ◌||◌, take, sym, ap, ◌∙◌, arith}
use Rattle.forest.specs.Forest.{any}
use Rattle.laying.specs.BoardSets.{has, board_set_at}
use Rattle.laying.proofs.Anys.{any_more}
use Rattle.laying.proofs.overlap.at_corners.Goals as goal

pub loop-v-preserved : goal.loop-v-preserved
loop-v-preserved c =
    λ p.
    let corners = c.args.corners.now in
    let i = c.loop-v.v-index in
    let f : ℕ → Bool = λ x. has (board_set_at c.args.near.now x) p in
    c.union-boards.ensures p
    ∙ ap (λ b. b || f c.from.result) (c.loop-v.invariant p)
    ∙ ap (λ x. any f (take i corners) || f x) c.from.ensures
    ∙ sym (any_more f corners i 0 (omega arith))
