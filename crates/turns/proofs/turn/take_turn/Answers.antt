-- A turn that is taken is one by the rules.
use Rattle.std.proofs.Common.{false, replicate, refl, arith}
use Rattle.medium.proofs.Calling.{calls_then}
use Rattle.turns.proofs.Calling.{same_put_calls}
use Rattle.turns.proofs.Turns.{turn_by_the_rules}
use Rattle.turns.proofs.turn.take_turn.Goals as goal

pub returns : goal.returns
returns g c =
    let A = g.E.Element.algebra in
    let plan = c.args.plan.now in
    let lanes = g.D.Medium.lanes in
    let haul = c.receive-haul.result in
    let puts = c.send-puts.result in
    let (none, same, own) = c.in_ok-own.ensures in
    let sent = rw (same, own) at c.send-puts.ensures.after in
    let (exact, alone, due_is) = turn_by_the_rules A plan.boards plan.copies.now plan.edges.now plan.sound
    c.args.board c.args.table.now.links c.receive-haul.new.table.links c.args.copies.now
    c.receive-haul.new.copies (lanes c.args.medium.now) (lanes c.receive-haul.new.medium)
    (lanes c.send-puts.new.medium) (replicate 8 false) haul.got haul.taken
    haul.accepted puts.made puts.lost none
    c.args.table.now.full refl (rw (same, own) at c.receive-haul.ensures.after)
    sent in
    record {
      exact = exact;
      alone = alone;
      still = tt;
      calls = calls_then (rw (same, own) at c.receive-haul.ensures.calls)
          (rw (same_put_calls _ _ _ c.args.board plan.boards due_is) at (rw (same, own) at c.send-puts.ensures.calls));
      few = (omega arith, omega arith, omega arith);
    }
