-- So far the boards below p have turned.
use Rattle.medium.specs.Calls.{rules_of}
use Rattle.plan.specs.Links.{shape}
use Rattle.circles.specs.Chains.{TurnsLead, snapshot}
use Rattle.circles.proofs.settle.circle.Given as goal

abbrev pub invariant-loop-p : goal.invariant-loop-p
invariant-loop-p g l =
    TurnsLead g.E.Element.algebra (rules_of g.D.Medium.lanes g.D.Medium.takes g.D.Medium.puts)
    (shape l.plan.boards l.plan.edges.now)
    (snapshot l.initial.turning.tally l.initial.table.links l.initial.copies l.initial.medium) l.p
    (snapshot l.turning.tally l.table.links l.copies l.medium)
