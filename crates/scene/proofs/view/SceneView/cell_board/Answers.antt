-- The board's byte stands two past where the cell begins.
use Rattle.std.proofs.Common.{◌+◌, Some, ap, ◌∙◌}
use Rattle.scene.specs.Layout.{byte_at}
use Rattle.scene.proofs.Reading.{absent, board_read}
use Rattle.scene.proofs.view.SceneView.cell_board.Goals as goal

pub returns-in_err-cell : goal.returns-in_err-cell
returns-in_err-cell c =
    let b = c.args.self.now.bytes.now in
    c.from_residual.ensures ∙ absent b c.args.c (λ x. Some x.board) c.in_err-cell.ensures

pub returns : goal.returns
returns c =
    let at = c.in_ok-cell.cell.at in
    let is = c.in_ok-cell.ensures in
    ap Some (c.from.ensures ∙ c.board.ensures ∙ ap (λ b. byte_at b (at + 2)) is.0)
    ∙ board_read c.args.self.now.bytes.now c.args.c at is.1
