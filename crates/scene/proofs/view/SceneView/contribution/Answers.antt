-- The contribution's twelve bytes stand at their place in the cell.
use Rattle.std.proofs.Common.{◌+◌, ◌*◌, ◌<◌, ◌≤◌, Some, ap, ◌∙◌, arith}
use Rattle.std.specs.List.{slice_get}
use Rattle.scene.specs.Layout.{corners_of, words_at, parts_place}
use Rattle.scene.proofs.Reading.{absent, part_read, part_past}
use Rattle.scene.proofs.view.SceneView.contribution.Goals as goal

pub returns-in_err-cell : goal.returns-in_err-cell
returns-in_err-cell c =
    let b = c.args.self.now.bytes.now in
    c.from_residual.ensures
    ∙ absent b c.args.c (λ x. slice_get x.parts c.args.k) c.in_err-cell.ensures

pub returns-then-k-corners : goal.returns-then-k-corners
returns-then-k-corners c =
    let b = c.args.self.now.bytes.now in
    let at = c.in_ok-cell.cell.at in
    let is = c.in_ok-cell.ensures in
    let inside : c.args.k < corners_of b = omega arith in
    ap Some (c.part.ensures
    ∙ ap (λ x. words_at x (parts_place c.in_ok-cell.cell.corners at + 12 * c.args.k)) is.0
    ∙ ap (λ n. words_at b (parts_place n at + 12 * c.args.k)) is.2)
    ∙ part_read b c.args.c at is.1 c.args.k inside

pub returns-else-k-corners : goal.returns-else-k-corners
returns-else-k-corners c =
    let b = c.args.self.now.bytes.now in
    let past : corners_of b ≤ c.args.k = omega arith in
    part_past b c.args.c c.in_ok-cell.cell.at c.in_ok-cell.ensures.1 c.args.k past
