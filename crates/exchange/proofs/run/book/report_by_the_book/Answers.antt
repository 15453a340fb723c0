-- What is reported is what the book says.
use Rattle.std.proofs.Common.{◌∙◌}
use Rattle.exchange.proofs.Shown.{report_is_the_books, reported}
use Rattle.exchange.proofs.run.book.report_by_the_book.Goals as goal

pub returns-in-Ok-clause-promise : goal.returns-in-Ok-clause-promise
returns-in-Ok-clause-promise g c = λ s laid copies lanes ts book losses run.
    let plan = c.args.plan.now in
    let (below, is) = reported plan.boards c.args.board _ _ _ c.in-Ok.ensures in
    is
    ∙ report_is_the_books g.E.Element.algebra g.met.E.Element.lawful s plan.boards plan.copies.now
    plan.edges.now plan.sound laid ts _ book losses run c.args.board below
