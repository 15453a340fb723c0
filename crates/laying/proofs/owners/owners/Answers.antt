-- One vertex more, and all vertices.
use Rattle.std.proofs.Common.{◌≡◌, ℕ, None, Option, ◌∙◌, arith}
use Rattle.std.proofs.lemmas.List.{length-set}
use Rattle.scene.proofs.Viewing.{view_sound}
use Rattle.scene.specs.Views.{viewed}
use Rattle.laying.specs.BoardSets.{has, board_set_at}
use Rattle.laying.specs.Tables.{lowest_below}
use Rattle.laying.proofs.Layers.{filled_more}
use Rattle.laying.proofs.Lowest.{owning_is}
use Rattle.laying.proofs.owners.owners.Goals as goal

pub loop-v-preserved : goal.loop-v-preserved
loop-v-preserved c =
    let owners = c.loop-v.owner-items in
    let v = c.loop-v.v in
    let here = c.lowest.result in
    let inv = c.loop-v.invariant in
    let P : ℕ → Option ℕ → Type 0 = λ k o. o ≡ lowest_below (has (board_set_at c.args.own.now k)) 8 in (
      length-set owners v here ∙ inv.0,
      filled_more P owners v here None (omega (arith, inv.0)) inv.1 c.lowest.ensures,
    )

pub returns : goal.returns
returns c =
    λ v h.
    let scene = c.args.scene.now in
    c.loop-v.invariant.1 v (omega arith)
    ∙ owning_is (viewed scene) (view_sound scene) v (has (board_set_at c.args.own.now v)) (λ p. c.requires p v h)
