-- A cell that is there has the corner, and its vertex is low.
use Rattle.std.proofs.Common.{◌≡◌, ◌<◌, get_or, sym, ◌∙◌, arith, rules}
use Rattle.laying.specs.Seen.{cell_of}
use Rattle.laying.proofs.Corners.{corner_there, corner_low}
use Rattle.laying.proofs.cells.vertex.Goals as goal

pub overflow_cast-result : goal.overflow_cast-result
overflow_cast-result c =
    let v = c.args.scene.now in
    let n = c.args.c in
    let there = sym c.in-Some.is ∙ c.corner.ensures ∙ corner_there v n c.requires.cell c.args.k c.requires.corner in
    let same : c.in-Some.v ≡ get_or (cell_of v n).corners c.args.k 0 = cc in
    let small : c.in-Some.v < 65536 = omega (arith, corner_low v n c.requires.cell c.args.k c.requires.corner) in
    search rules

pub returns : goal.returns
returns c =
    let v = c.args.scene.now in
    let n = c.args.c in
    let there = sym c.in-Some.is ∙ c.corner.ensures ∙ corner_there v n c.requires.cell c.args.k c.requires.corner in
    cc

pub unreachable-requires : goal.unreachable-requires
unreachable-requires c =
    let v = c.args.scene.now in
    let n = c.args.c in
    let there = sym c.in_default.is ∙ c.corner.ensures ∙ corner_there v n c.requires.cell c.args.k c.requires.corner in
    cc
