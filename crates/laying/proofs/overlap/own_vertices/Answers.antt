-- Each cell marks its board.
use Rattle.std.proofs.Common.{eqb, ◌∙◌, rules}
use Rattle.scene.specs.Views.{viewed}
use Rattle.laying.specs.Seen.{cell_of}
use Rattle.laying.proofs.Corners.{read_low}
use Rattle.laying.proofs.Layers.{owned_is}
use Rattle.laying.proofs.overlap.own_vertices.Goals as goal

pub mark-requires-clause-low : goal.mark-requires-clause-low
mark-requires-clause-low c = read_low c.args.scene.now c.args.corners.now c.requires

pub returns : goal.returns
returns c =
    λ p v h.
    let s = c.args.scene.now in
    c.mark.ensures (λ q n. eqb (cell_of s n).board q) (λ n found l q. search rules) p v h
    ∙ owned_is (viewed s).cells p v c.args.corners.now c.requires.all c.requires.each
