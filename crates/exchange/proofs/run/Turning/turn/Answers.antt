-- A turn that is taken goes on with the run, and one that is refused leaves it where it is.
use Rattle.std.proofs.Common.{Ok, Err, sym, ap, ◌∙◌, subst}
use Rattle.std.proofs.lemmas.Result.{err_from_is_err_and}
use Rattle.protocol.specs.Runs.{moment}
use Rattle.exchange.specs.Going.{GoesOn}
use Rattle.exchange.proofs.Promises.{answer_goes_on}
use Rattle.exchange.proofs.Turns.{over_is_refused, taken_is_accepted, untaken_is_refused}
use Rattle.exchange.proofs.run.Turning.turn.Goals as goal

pub returns-clause-promise : goal.returns-clause-promise
returns-clause-promise g c =
    let A = g.E.Element.algebra in
    let plan = c.args.plan.now in
    let lanes = g.D.Medium.lanes in
    let exact = taken_is_accepted A plan.boards plan.copies.now plan.edges.now c.args.board
    c.args.self.now.tally c.args.table.now.links c.take_turn.new.table.links
    c.args.copies.now c.take_turn.new.copies (lanes c.args.medium.now)
    (lanes c.take_turn.new.medium) (sym c.is_over.ensures ∙ c.if-is_over.false)
    c.count.new.self.tally c.in_ok-counts.counts c.count.ensures
    c.in_ok-counts.ensures.exact in
    λ s laid. answer_goes_on A g.met.E.Element.lawful s plan.boards plan.copies.now
    plan.edges.now laid c.args.board _ _ (Ok _) exact

pub returns-then-is_over-clause-promise : goal.returns-then-is_over-clause-promise
returns-then-is_over-clause-promise g c =
    let A = g.E.Element.algebra in
    let plan = c.args.plan.now in
    let m = moment c.args.self.now.tally c.args.table.now.links c.args.copies.now
    (g.D.Medium.lanes c.args.medium.now) in
    let exact = over_is_refused A plan.boards plan.copies.now plan.edges.now c.args.board m
    (sym c.is_over.ensures ∙ c.if-is_over.true) in
    λ s laid. answer_goes_on A g.met.E.Element.lawful s plan.boards plan.copies.now
    plan.edges.now laid c.args.board m m (Err _) exact

pub returns-in_err-counts-clause-promise : goal.returns-in_err-counts-clause-promise
returns-in_err-counts-clause-promise g c =
    let A = g.E.Element.algebra in
    let plan = c.args.plan.now in
    let lanes = g.D.Medium.lanes in
    let p = err_from_is_err_and c.from_residual.result c.from_residual.ensures.1 in
    let exact = untaken_is_refused A plan.boards plan.copies.now plan.edges.now c.args.board
    c.args.self.now.tally c.args.table.now.links c.take_turn.new.table.links
    c.args.copies.now c.take_turn.new.copies (lanes c.args.medium.now)
    (lanes c.take_turn.new.medium) (sym c.is_over.ensures ∙ c.if-is_over.false)
    c.in_err-counts.field-0.0 c.in_err-counts.ensures.exact in
    λ s laid. subst (GoesOn A s c.args.board _ _) (sym (p.1 ∙ ap Err p.2))
    (answer_goes_on A g.met.E.Element.lawful s plan.boards plan.copies.now plan.edges.now laid c.args.board _ _ (Err _)
    exact)
