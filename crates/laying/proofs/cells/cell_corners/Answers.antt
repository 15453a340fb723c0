-- A cell has three corners.
use Rattle.laying.specs.Seen.{cell_of}
use Rattle.laying.proofs.Corners.{corners_three, three}
use Rattle.laying.proofs.cells.cell_corners.Goals as goal

pub returns : goal.returns
returns c =
    let v = c.args.scene.now in
    let first = c.vertex.ensures in
    let second = c.vertex-2.ensures in
    let third = c.vertex-3.ensures in
    let all = three (cell_of v c.args.c).corners (corners_three v c.args.c c.requires) in
    cc
