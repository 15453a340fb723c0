-- A refusal's line is its page.
use Rattle.std.proofs.Common.{sym, subst}
use Rattle.std.proofs.lemmas.Result.{IfOk-weaker}
use Rattle.medium.specs.Calls.{rules_of}
use Rattle.cabinet.specs.Listed.{PageTold}
use Rattle.cabinet.proofs.listed.list.Goals as goal

pub returns-in-Err-clause-told : goal.returns-in-Err-clause-told
returns-in-Err-clause-told g c =
    IfOk-weaker c.list_refusal.result _ _ (λ page line.
    subst (PageTold (rules_of g.D.Medium.lanes g.D.Medium.takes g.D.Medium.puts) c.args.bytes.now c.args.medium) (sym line) c.in-Err.ensures)
    c.list_refusal.ensures
