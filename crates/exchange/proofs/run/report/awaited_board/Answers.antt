-- The first board from which items are lacking is the lowest such board.
use Rattle.std.proofs.Common.{◌≡◌, ℕ, Bool, true, false, ltb, rules}
use borrow.Author.Tests.{tests}
use Rattle.std.proofs.lemmas.Iterator.{first_from_Range}
use Rattle.plan.specs.Links.{shape}
use Rattle.protocol.specs.Books.{lacks}
use Rattle.protocol.specs.Runs.{accepted_in}
use Rattle.exchange.proofs.Search.{lowest_from_find}
use Rattle.exchange.proofs.run.report.awaited_board.Goals as goal

pub returns : goal.returns
returns c =
    let P = shape c.args.plan.now.boards c.args.plan.now.edges.now in
    let count = accepted_in c.args.table.now.links in
    let lacking : ℕ → Bool = λ q. ltb 0 (lacks P count c.args.p q) in
    lowest_from_find lacking c.boards.result P.boards c.boards.ensures c.find.result
    (first_from_Range _ _ _ _ (λ i. lacking i ≡ true) (λ i. lacking i ≡ false) c.find.ensures.ran
    (λ i q k. search (rules, tests)) (λ i q k. search (rules, tests)))
