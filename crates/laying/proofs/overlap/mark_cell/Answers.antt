-- One corner more.
use Rattle.std.proofs.Common.{ℕ, Bool, ◌||◌, ◌&&◌, eqb, get_or, take, sym, ap, ◌∙◌, arith}
use Rattle.forest.specs.Forest.{any}
use Rattle.laying.specs.BoardSets.{has, board_set_at}
use Rattle.laying.proofs.Anys.{any_more}
use Rattle.laying.proofs.BoardSets.{come_again}
use Rattle.laying.proofs.overlap.mark_cell.Goals as goal

pub loop-v-preserved : goal.loop-v-preserved
loop-v-preserved c = (
  c.add.array_long,
  λ p k h.
      let corners = c.args.corners.now in
      let i = c.loop-v.v-index in
      let f : ℕ → Bool = λ x. eqb x k in
      let was = has (board_set_at c.args.marked.now k) p in
      let come = has c.args.boards p in
      c.add.ensures p k h
      ∙ ap (λ b. b || (come && f (get_or corners i 0))) (c.loop-v.invariant.1 p k h)
      ∙ come_again was come (any f (take i corners)) (f (get_or corners i 0))
      ∙ ap (λ b. was || (come && b)) (sym (any_more f corners i 0 (omega arith))),
)
