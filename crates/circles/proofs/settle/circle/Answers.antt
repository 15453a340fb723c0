-- One board more; with room and turns for all boards none is refused.
use Rattle.std.proofs.Common.{◌≡◌, ℕ, length, add-one, sym, subst, arith}
use Rattle.medium.specs.Calls.{rules_of}
use Rattle.plan.specs.Links.{shape}
use Rattle.circles.specs.Chains.{TurnsLead, moment_at, no_turn, next_turn, snapshot}
use Rattle.circles.proofs.Turns.{circle_allowed, not_refused, turns_counted}
use Rattle.circles.proofs.settle.circle.Goals as goal

pub loop-p-init : goal.loop-p-init
loop-p-init g c = no_turn

pub unreachable-requires : goal.unreachable-requires
unreachable-requires g c =
    let plan = c.args.plan.now in
    let A = g.E.Element.algebra in
    let R = rules_of g.D.Medium.lanes g.D.Medium.takes g.D.Medium.puts in
    let x = snapshot c.args.turning.now.tally c.args.table.now.links c.args.copies.now c.args.medium.now in
    let y = snapshot c.loop-p.turning.tally c.loop-p.table.links c.loop-p.copies c.loop-p.medium in
    let turns = turns_counted A R (shape plan.boards plan.edges.now) x y c.loop-p.p c.loop-p.invariant in
    let (room, left) = circle_allowed plan.boards plan.copies.now (length x.copies) x.tally.turns
    c.in_ok-check_circle.ensures.ok in
    let kept : length y.copies ≡ length x.copies = omega arith in
    not_refused A plan.boards plan.copies.now plan.edges.now c.loop-p.p (moment_at R y) _ c.in_default.field-0
    (omega arith) (omega arith) (omega arith) c.in_default.ensures.exact

pub loop-p-preserved : goal.loop-p-preserved
loop-p-preserved g c =
    let plan = c.args.plan.now in
    let A = g.E.Element.algebra in
    let R = rules_of g.D.Medium.lanes g.D.Medium.takes g.D.Medium.puts in
    let x = snapshot c.args.turning.now.tally c.args.table.now.links c.args.copies.now c.args.medium.now in
    let y = snapshot c.loop-p.turning.tally c.loop-p.table.links c.loop-p.copies c.loop-p.medium in
    let z = snapshot c.turn.new.self.tally c.turn.new.table.links c.turn.new.copies c.turn.new.medium in
    subst (λ (k : ℕ). TurnsLead A R (shape plan.boards plan.edges.now) x k z) (sym (add-one c.loop-p.p))
    (next_turn c.loop-p.p y z c.loop-p.invariant record { turn = c.in-Ok.ensures.exact.1; calls = c.in-Ok.ensures.calls })
