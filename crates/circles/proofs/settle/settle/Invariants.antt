-- So far as many circles were made as the loop counts, the goal not being met before each.
use Rattle.medium.specs.Calls.{rules_of}
use Rattle.plan.specs.Links.{shape}
use Rattle.circles.specs.Chains.{CirclesLead, snapshot}
use Rattle.circles.proofs.settle.settle.Given as goal

abbrev pub invariant-loop-circles : goal.invariant-loop-circles
invariant-loop-circles g l =
    let P = shape l.plan.boards l.plan.edges.now in
    CirclesLead g.E.Element.algebra (rules_of g.D.Medium.lanes g.D.Medium.takes g.D.Medium.puts) P (g.G.Goal.met P)
    (snapshot l.initial.turning.tally l.initial.table.links l.initial.copies l.initial.medium) l.circles
    (snapshot l.turning.tally l.table.links l.copies l.medium)
