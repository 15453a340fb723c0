-- One cell more.
use Rattle.std.proofs.Common.{◌≡◌, ℕ, Bool, ◌&&◌, ◌||◌, eqb, length, sym, refl, ap, ◌∙◌, arith, rules}
use Rattle.std.proofs.lemmas.List.{get_or-replicate}
use Rattle.forest.specs.Forest.{any}
use Rattle.laying.specs.BoardSets.{has}
use Rattle.laying.specs.Rows.{some}
use Rattle.laying.specs.Tables.{row}
use Rattle.laying.proofs.Gather.{some_more}
use Rattle.laying.proofs.overlap.mark.Goals as goal

pub loop-c-init : goal.loop-c-init
loop-c-init g c = (
  refl,
  λ t told p v h.
      ap (λ s. has s p) (get_or-replicate 1024 v c.none-marked.result (record { bits = 0 }) h)
      ∙ c.none-marked.ensures p,
)

pub loop-c-preserved : goal.loop-c-preserved
loop-c-preserved g c =
    let i = c.loop-c.c in
    let cell = row c.args.corners.now in (
      search rules,
      λ t told p v h.
          let u : ℕ → Bool = λ k. t p k && any (λ x. eqb x v) (cell k) in
          let come = c.boards.result in
          c.mark_cell.ensures p v h
          ∙ ap (λ b. b || (has come p && any (λ x. eqb x v) (cell i))) (c.loop-c.invariant.1 t told p v h)
          ∙ ap (λ b. some u i || (b && any (λ x. eqb x v) (cell i))) (told i come (omega arith) c.boards.ensures p)
          ∙ sym (some_more u i),
    )

pub returns : goal.returns
returns g c =
    λ t told p v h.
    let corners = c.args.corners.now in
    let all : c.loop-c.c ≡ length corners = omega arith in
    c.loop-c.invariant.1 t told p v h ∙ ap (some (λ k. t p k && any (λ x. eqb x v) (row corners k))) all
