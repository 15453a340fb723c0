-- Bytes are admitted exactly if no rule is found broken, and that is exactly if they are a scene's bytes.
use Rattle.std.proofs.Common.{◌≡◌, ℕ, ◌<◌, is_ok, sym, ap, ◌∙◌, arith}
use Rattle.std.proofs.lemmas.Bool.{leb-true}
use Rattle.scene.specs.Layout.{byte_at}
use Rattle.scene.specs.Rules.{scene_rules, admits}
use Rattle.scene.proofs.Soundness.{end_kept}
use Rattle.scene.proofs.Verdicts.{verdict_ok}
use Rattle.scene.proofs.Bytewise.{accepted, read_back}
use Rattle.scene.proofs.check.check.Goals as goal

pub returns-clause-exact : goal.returns-clause-exact
returns-clause-exact c = verdict_ok (scene_rules c.args.bytes.now) ∙ sym (ap is_ok c.check_records.ensures)

pub returns-clause-meaning : goal.returns-clause-meaning
returns-clause-meaning c =
    let b = c.args.bytes.now in
    let exact : admits b ≡ is_ok c.check_records.result =
    verdict_ok (scene_rules b) ∙ sym (ap is_ok c.check_records.ensures) in
    let small : (i : ℕ) → byte_at b i < 256 = λ i. omega (arith, c.type_inv.bytes i) in
    accepted b small (is_ok c.check_records.result) exact

pub returns-clause-back : goal.returns-clause-back
returns-clause-back c = read_back c.args.bytes.now

-- of the end's rules the first is that its two bytes are there
pub returns-clause-long : goal.returns-clause-long
returns-clause-long c =
    let b = c.args.bytes.now in
    λ ok. leb-true _ _ (end_kept b (verdict_ok (scene_rules b) ∙ sym (ap is_ok c.check_records.ensures) ∙ ok)).0
