-- The first record of another link is found where the link's edges end.
use Rattle.std.proofs.Common.{◌≡◌, true, false, eqb, get_or, ◌∙◌, rules}
use borrow.Author.Tests.{tests}
use Rattle.std.proofs.lemmas.Iterator.{first_from_Range}
use Rattle.plan.specs.declared.records.Edge.{Edge}
use Rattle.plan.specs.Starts.{link_number}
use Rattle.plan.proofs.Counting.{found_end}
use Rattle.plan.proofs.Plans.{links_rise}
use Rattle.plan.proofs.rules.Records.link_end.Goals as goal

pub returns : goal.returns
returns c =
    let s = c.args.self.now in
    let edges = s.edges.now in
    let link = c.args.link in
    c.unwrap_or.ensures
    ∙ found_end edges (links_rise s.boards s.copies.now edges c.requires.sound) link c.args.start c.find.result
    c.requires.begins
    (first_from_Range _ _ _ _ (λ i. (d : Edge) → eqb (link_number (get_or edges i d)) link ≡ false)
    (λ i. (d : Edge) → eqb (link_number (get_or edges i d)) link ≡ true) c.find.ensures.ran
    (λ i q k. search (rules, tests)) (λ i q k. search (rules, tests)))
