-- The first board whose report is not that it is settled is the lowest such board.
use Rattle.std.proofs.Common.{◌≡◌, ℕ, Bool, true, false, not, rules}
use borrow.Author.Tests.{tests}
use Rattle.std.proofs.lemmas.Iterator.{first_from_Range}
use Rattle.plan.specs.Links.{shape}
use Rattle.protocol.specs.Books.{is_settled, report_by}
use Rattle.protocol.specs.Runs.{accepted_in}
use Rattle.exchange.proofs.Search.{lowest_from_find}
use Rattle.exchange.proofs.run.end.first_unsettled.Goals as goal

pub returns : goal.returns
returns c =
    let P = shape c.args.plan.now.boards c.args.plan.now.edges.now in
    let count = accepted_in c.args.table.now.links in
    let unsettled : ℕ → Bool = λ p. not (is_settled (report_by P count p)) in
    lowest_from_find unsettled c.boards.result P.boards c.boards.ensures c.find.result
    (first_from_Range _ _ _ _ (λ i. unsettled i ≡ true) (λ i. unsettled i ≡ false) c.find.ensures.ran
    (λ i q k. search (rules, tests)) (λ i q k. search (rules, tests)))
