-- The header's rules, then the others.
use Rattle.std.proofs.Common.{ap, ◌∙◌}
use Rattle.scene.specs.Rules.{verdict, head_of, header_rules, in_record, body_rules}
use Rattle.scene.proofs.Verdicts.{past, header_passed}
use Rattle.scene.proofs.check.check_records.Goals as goal

pub returns : goal.returns
returns c =
    let b = c.args.bytes.now in
    let read = header_passed b c.read_header.result c.read_header.ensures _ c.in_ok-head.ensures in
    c.check_body.ensures
    ∙ ap (λ h. verdict (body_rules h b)) read.0
    ∙ past (in_record 0 (header_rules b)) (body_rules (head_of b) b) read.1
