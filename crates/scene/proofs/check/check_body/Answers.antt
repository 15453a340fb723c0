-- The cells' rules, then the end's.
use Rattle.std.proofs.Common.{◌+◌, ap, ◌∙◌}
use Rattle.std.specs.List.{range_with_len, flat_map}
use Rattle.scene.specs.Layout.{cell_place}
use Rattle.scene.specs.Rules.{verdict, cell_record, end_rules, in_record, broken}
use Rattle.scene.proofs.Verdicts.{past, stopped, exit_is, record_passed, record_stopped}
use Rattle.scene.proofs.check.check_body.Goals as goal

pub returns-in_err-check_cells : goal.returns-in_err-check_cells
returns-in_err-check_cells c =
    let h = c.args.head in
    let b = c.args.bytes.now in
    let bad = c.in_err-check_cells in
    let r = c.from_residual in
    let last = in_record (h.cells + 1) (end_rules b (cell_place h.corners h.cells)) in
    exit_is r.result bad.field-0.0 r.ensures.1
    ∙ stopped (flat_map (cell_record h b) (range_with_len 0 h.cells)) last bad.field-0.0 bad.ensures

pub returns-in_err-in_record : goal.returns-in_err-in_record
returns-in_err-in_record c =
    let h = c.args.head in
    let b = c.args.bytes.now in
    let bad = c.in_err-in_record in
    let r = c.from_residual-in_err-in_record in
    let rules = end_rules b (cell_place h.corners h.cells) in
    let is = c.check_end.ensures ∙ ap (λ at. verdict (end_rules b at)) c.cell_place-at.ensures.place in
    exit_is r.result _ r.ensures.1
    ∙ record_stopped (h.cells + 1) rules c.check_end.result is bad.field-0.0
    (bad.ensures ∙ ap (λ k. broken (k + 1) c.check_end.result) c.from.ensures)
    ∙ past (flat_map (cell_record h b) (range_with_len 0 h.cells)) (in_record (h.cells + 1) rules)
    c.in_ok-check_cells.ensures

pub returns : goal.returns
returns c =
    let h = c.args.head in
    let b = c.args.bytes.now in
    let rules = end_rules b (cell_place h.corners h.cells) in
    let is = c.check_end.ensures ∙ ap (λ at. verdict (end_rules b at)) c.cell_place-at.ensures.place in
    record_passed (h.cells + 1) rules c.check_end.result is
    (c.in_ok-in_record.ensures ∙ ap (λ k. broken (k + 1) c.check_end.result) c.from.ensures)
    ∙ past (flat_map (cell_record h b) (range_with_len 0 h.cells)) (in_record (h.cells + 1) rules)
    c.in_ok-check_cells.ensures
