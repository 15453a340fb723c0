-- Corner by corner.
use Rattle.std.proofs.Common.{◌≡◌, ◌<◌, length, get_or, take, arith}
use Rattle.std.proofs.ByRecursion.{All-get_or}
use Rattle.scene.specs.Read.{no_cell}
use Rattle.scene.specs.Views.{viewed}
use Rattle.scene.proofs.Soundness.{corners_count}
use Rattle.scene.proofs.Viewing.{view_sound}
use Rattle.sums.proofs.OwnSums.{cell_begun, corner_step, cell_step}
use Rattle.sums.proofs.sums.OwnSums.add_cell.Goals as goal

pub loop-k-init : goal.loop-k-init
loop-k-init g c =
    let cells = (viewed c.args.scene.now).cells in
    cell_begun g.E.Element.algebra g.met.E.Element.lawful (take c.args.c cells)
    (get_or cells c.args.c no_cell) c.args.self.now.words c.requires.before

pub loop-k-preserved : goal.loop-k-preserved
loop-k-preserved g c =
    let v = c.args.scene.now in
    let n = c.args.c in
    let count = All-get_or _ (viewed v).cells n no_cell c.requires.cell (corners_count v.bytes.now) in
    let l : c.loop-k.k < length (get_or (viewed v).cells n no_cell).corners =
    omega (arith, count, c.corners-k-end.ensures) in
    corner_step g.E.Element.algebra g.met.E.Element.lawful (viewed v) (view_sound v) n c.requires.cell
    c.loop-k.k c.loop-k.self.words c.add_corner.new.self.words l c.add_corner.ensures c.loop-k.invariant

pub returns : goal.returns
returns g c =
    let v = c.args.scene.now in
    let n = c.args.c in
    let count = All-get_or _ (viewed v).cells n no_cell c.requires.cell (corners_count v.bytes.now) in
    let all : length (get_or (viewed v).cells n no_cell).corners ≡ c.loop-k.k =
    omega (arith, count, c.corners-k-end.ensures) in
    cell_step g.E.Element.algebra g.met.E.Element.lawful (viewed v) (view_sound v) n c.requires.cell
    c.loop-k.k c.loop-k.self.words all c.loop-k.invariant
