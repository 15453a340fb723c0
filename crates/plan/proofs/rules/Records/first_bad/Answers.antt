-- The first number at which the rules are broken is that of the first bad record.
use Rattle.std.proofs.Common.{◌≡◌, true, false, rules}
use borrow.Author.Tests.{tests}
use Rattle.std.proofs.lemmas.Iterator.{first_from_Range}
use Rattle.plan.specs.Sound.{keeps_rules}
use Rattle.plan.proofs.Breaks.{first_found}
use Rattle.plan.proofs.rules.Records.first_bad.Goals as goal

pub returns : goal.returns
returns g c =
    let fits = g.R.Record.fits c.args.self.now.boards c.args.self.now.copies.now in
    let before = g.R.Record.before in
    let xs = c.args.records.now in
    first_found fits before xs c.find.result
    (first_from_Range _ _ _ _ (λ i. (none : g.row.R.Denot) → keeps_rules fits before none xs i ≡ false)
    (λ i. (none : g.row.R.Denot) → keeps_rules fits before none xs i ≡ true) c.find.ensures.ran
    (λ i q k. search (rules, tests)) (λ i q k. search (rules, tests)))
