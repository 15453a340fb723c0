-- The four lists of a cell's rules, one after the other.
use Rattle.std.proofs.Common.{ℕ, ◌*◌, List, ◌++◌, ◌∙◌}
use Rattle.std.specs.List.{range_with_len, flat_map}
use Rattle.scene.specs.declared.fault.RecordFault.{RecordFault}
use Rattle.scene.specs.declared.head.Head.{Head}
use Rattle.scene.specs.Rules.{Rule, start_rules, corner_rule, pair_rules, word_rule}
use Rattle.scene.proofs.Verdicts.{past, stopped, exit_is}
use Rattle.scene.proofs.cell.CellCheck.all.Goals as goal

abbrev on_vertices : Head → List ℕ → ℕ → List (Rule RecordFault)
on_vertices h b at = flat_map (corner_rule h b at) (range_with_len 0 h.corners)

abbrev all_apart : Head → List ℕ → ℕ → List (Rule RecordFault)
all_apart h b at = flat_map (pair_rules h b at) (range_with_len 0 h.corners)

abbrev words_unused : Head → List ℕ → ℕ → List (Rule RecordFault)
words_unused h b at = flat_map (word_rule h b at) (range_with_len 0 (3 * h.corners))

pub returns-in_err-corners : goal.returns-in_err-corners
returns-in_err-corners c =
    let h = c.args.self.now.head in
    let b = c.args.self.now.cell.bytes.now in
    let at = c.args.self.now.cell.at in
    let bad = c.in_err-corners in
    let r = c.from_residual-in_err-corners in
    let rest = all_apart h b at ++ words_unused h b at in
    exit_is r.result bad.field-0.0 r.ensures.1
    ∙ stopped (on_vertices h b at) rest bad.field-0.0 bad.ensures
    ∙ past (start_rules h b at) (on_vertices h b at ++ rest) c.in_ok-start.ensures

pub returns-in_err-apart : goal.returns-in_err-apart
returns-in_err-apart c =
    let h = c.args.self.now.head in
    let b = c.args.self.now.cell.bytes.now in
    let at = c.args.self.now.cell.at in
    let bad = c.in_err-apart in
    let r = c.from_residual-in_err-apart in
    let rest = all_apart h b at ++ words_unused h b at in
    exit_is r.result bad.field-0.0 r.ensures.1
    ∙ stopped (all_apart h b at) (words_unused h b at) bad.field-0.0 bad.ensures
    ∙ past (on_vertices h b at) rest c.in_ok-corners.ensures
    ∙ past (start_rules h b at) (on_vertices h b at ++ rest) c.in_ok-start.ensures

pub returns : goal.returns
returns c =
    let h = c.args.self.now.head in
    let b = c.args.self.now.cell.bytes.now in
    let at = c.args.self.now.cell.at in
    let rest = all_apart h b at ++ words_unused h b at in
    c.words.ensures
    ∙ past (all_apart h b at) (words_unused h b at) c.in_ok-apart.ensures
    ∙ past (on_vertices h b at) rest c.in_ok-corners.ensures
    ∙ past (start_rules h b at) (on_vertices h b at ++ rest) c.in_ok-start.ensures
