-- One circle more.
use Rattle.std.proofs.Common.{ℕ, add-one, sym, ◌∙◌, subst}
use Rattle.medium.specs.Calls.{rules_of}
use Rattle.plan.specs.Links.{shape}
use Rattle.circles.specs.Chains.{CirclesLead, no_circle, next_circle, snapshot}
use Rattle.circles.proofs.settle.settle.Goals as goal

pub loop-circles-init : goal.loop-circles-init
loop-circles-init g c = no_circle

pub loop-circles-preserved : goal.loop-circles-preserved
loop-circles-preserved g c =
    let plan = c.args.plan.now in
    let P = shape plan.boards plan.edges.now in
    let R = rules_of g.D.Medium.lanes g.D.Medium.takes g.D.Medium.puts in
    let x = snapshot c.args.turning.now.tally c.args.table.now.links c.args.copies.now c.args.medium.now in
    let y = snapshot c.loop-circles.turning.tally c.loop-circles.table.links c.loop-circles.copies
    c.loop-circles.medium in
    let z = snapshot c.circle.new.turning.tally c.circle.new.table.links c.circle.new.copies c.circle.new.medium in
    subst (λ (k : ℕ). CirclesLead g.E.Element.algebra R P (g.G.Goal.met P) x k z) (sym (add-one c.loop-circles.circles))
    (next_circle c.loop-circles.circles y z c.loop-circles.invariant (sym c.is_met.ensures ∙ c.if-is_met.false)
    c.in-Ok.ensures.exact.1)
