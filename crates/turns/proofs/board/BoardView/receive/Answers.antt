-- Nothing is taken at first; then one lane more.
use Rattle.std.proofs.Common.{false, replicate, arith, rules}
use Rattle.medium.specs.Calls.{no_call, rules_of}
use Rattle.protocol.specs.Steps.{received}
use Rattle.turns.proofs.Calling.{no_take_from_itself, takes_more}
use Rattle.turns.proofs.board.BoardView.receive.Goals as goal
use Rattle.turns.proofs.board.BoardView.receive.Goals.{then-q-self, else-q-self}

pub loop-q-init : goal.loop-q-init
loop-q-init g c = record {
  so_far = search rules;
  calls = no_call;
  few = omega arith;
}

pub loop-q-preserved : goal.loop-q-preserved
loop-q-preserved g c =
    let R = rules_of g.D.Medium.lanes g.D.Medium.takes g.D.Medium.puts in
    let v = c.loop-q.invariant in
    let p = c.args.self.now.board in
    let first = received c.args.table.now.links c.args.copies.now 0 (R.lanes c.args.medium.now) 0 (replicate 8 false) in
    elim c.if-q-self.branch [
      | then-q-self w ↦ rw (w.table-is, w.copies-is, w.medium-is, w.haul-is) record {
        so_far = search rules;
        calls = takes_more R g.E.Element.algebra c.args.self.now.plan.now.edges.now p c.loop-q.q first _ v.so_far
            v.calls w.if-q-self.true (rw (w.of.ensures.ends.0, w.of.ensures.ends.1) at w.take_lane.ensures.calls);
        few = search rules;
      }
      | else-q-self w ↦ rw (w.table-is, w.copies-is, w.medium-is, w.haul-is) record {
        so_far = search rules;
        calls = search (rules, no_take_from_itself);
        few = omega arith;
      }
    ]
