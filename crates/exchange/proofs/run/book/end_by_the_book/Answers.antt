-- A run that ends has all boards settled by the book, and one that does not has a lowest that lacks something.
use Rattle.std.proofs.Common.{◌≤◌, arith}
use Rattle.plan.specs.Links.{shape}
use Rattle.protocol.specs.Books.{lowest_unsettled}
use Rattle.protocol.specs.Runs.{accepted_in}
use Rattle.exchange.proofs.Shown.{lowest_lacks, all_have_all, copies_are_totals}
use Rattle.exchange.proofs.run.book.end_by_the_book.Goals as goal

pub returns-in-Ok-clause-promise : goal.returns-in-Ok-clause-promise
returns-in-Ok-clause-promise g c = λ s laid copies lanes ts book losses run.
    let plan = c.args.plan.now in
    let A = g.E.Element.algebra in
    let law = g.met.E.Element.lawful in
    let all : plan.boards ≤ lowest_unsettled (shape plan.boards plan.edges.now) (accepted_in c.args.table.now.links) =
    omega (arith, c.in-Ok.ensures.ok.0) in (
      all_have_all A law s plan.boards plan.copies.now plan.edges.now plan.sound laid ts _ book losses run all,
      copies_are_totals A law s plan.boards plan.copies.now plan.edges.now plan.sound laid ts _ book losses run all,
    )

pub returns-in-Err-clause-promise : goal.returns-in-Err-clause-promise
returns-in-Err-clause-promise g c = λ s laid copies lanes ts book losses run.
    let plan = c.args.plan.now in
    let (below, _, early) = c.in-Err.ensures.err in (
      _,
      lowest_lacks g.E.Element.algebra g.met.E.Element.lawful s plan.boards plan.copies.now plan.edges.now plan.sound
          laid ts _ book losses run below,
      early,
    )
