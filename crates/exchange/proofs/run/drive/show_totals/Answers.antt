-- What is shown are totals, since the run may end.
use Rattle.std.proofs.Common.{◌∙◌, arith}
use Rattle.protocol.specs.Runs.{moment}
use Rattle.exchange.proofs.Shown.{shown_are_totals}
use Rattle.exchange.proofs.run.drive.show_totals.Goals as goal

pub returns-clause-promise : goal.returns-clause-promise
returns-clause-promise g c = λ s laid tally lanes ts book losses run.
    let plan = c.args.plan.now in
    c.in-Ok.ensures.ok.1
    ∙ shown_are_totals g.E.Element.algebra g.met.E.Element.lawful s plan.boards plan.copies.now
    plan.edges.now plan.sound laid ts (moment tally c.args.table.now.links c.args.copies.now lanes) book
    losses run (omega (arith, c.requires.settled)) c.args.board
