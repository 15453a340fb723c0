-- What the cell's rules come to, with the record's number.
use Rattle.std.proofs.Common.{◌+◌, ap, ◌∙◌}
use Rattle.scene.specs.Layout.{cell_place}
use Rattle.scene.specs.Rules.{cell_rules, broken}
use Rattle.scene.proofs.Verdicts.{exit_is, record_passed, record_stopped}
use Rattle.scene.proofs.check.check_record.Goals as goal

pub returns-in_err-in_record : goal.returns-in_err-in_record
returns-in_err-in_record c =
    let h = c.args.head in
    let b = c.args.bytes.now in
    let n = c.args.n in
    let bad = c.in_err-in_record in
    let cell = c.check_cell in
    exit_is c.from_residual.result _ c.from_residual.ensures.1
    ∙ record_stopped (n + 1) (cell_rules h b (cell_place h.corners n)) cell.result cell.ensures bad.field-0.0
    (bad.ensures ∙ ap (λ k. broken (k + 1) cell.result) c.from.ensures)

pub returns : goal.returns
returns c =
    let h = c.args.head in
    let b = c.args.bytes.now in
    let n = c.args.n in
    let cell = c.check_cell in
    record_passed (n + 1) (cell_rules h b (cell_place h.corners n)) cell.result cell.ensures
    (c.in_ok-in_record.ensures ∙ ap (λ k. broken (k + 1) cell.result) c.from.ensures)
