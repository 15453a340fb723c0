-- One board more, and then all boards.
use Rattle.std.proofs.Common.{◌≡◌, arith, rules}
use Rattle.medium.specs.Calls.{no_call, rules_of}
use Rattle.protocol.specs.Steps.{due, due_frame}
use Rattle.turns.proofs.Putting.{itself, put_adds_one, no_put}
use Rattle.turns.proofs.Calling.{no_put_to_itself, puts_more}
use Rattle.turns.proofs.board.BoardView.send.Goals as goal
use Rattle.turns.proofs.board.BoardView.send.Goals.{in-Some, in_default}

pub loop-q-init : goal.loop-q-init
loop-q-init g c = record {
  so_far = search rules;
  calls = no_call;
  few = omega arith;
}

pub loop-q-preserved-then-q-self : goal.loop-q-preserved-then-q-self
loop-q-preserved-then-q-self g c = record {
  so_far = itself _ _ _ _ c.loop-q.q _ _ _ c.loop-q.invariant.so_far c.if-q-self.true;
  calls = search (rules, no_put_to_itself);
  few = omega arith;
}

pub loop-q-preserved : goal.loop-q-preserved
loop-q-preserved g c =
    let A = g.E.Element.algebra in
    let plan = c.args.self.now.plan.now in
    let links = c.args.table.now.links in
    let p = c.args.self.now.board in
    let q = c.loop-q.q in
    let lanes = g.D.Medium.lanes in
    let R = rules_of lanes g.D.Medium.takes g.D.Medium.puts in
    let v = c.loop-q.invariant in
    let l = c.of-link.ensures in
    let owed = due A plan.boards plan.edges.now p links c.args.got.now in
    let frame = due_frame A plan.boards plan.edges.now p links c.args.copies.now in
    let call =
    rw (
      c.counts.ensures,
      c.counts_back.ensures,
      l.ends.0,
      l.ends.1,
      l.ups,
      l.downs,
      c.has_gathered-gathered.ensures,
    ) at c.speak.ensures.calls in
    let calls = puts_more R owed frame p q v.calls c.if-q-self.false call in
    elim c.match-speak.branch [
      | in-Some w ↦
          let (is, after) =
          rw (
            c.counts.ensures,
            c.counts_back.ensures,
            l.ends.0,
            l.ends.1,
            l.ups,
            l.downs,
            c.has_gathered-gathered.ensures,
          ) at w.in-Some.ensures.lanes in
          rw (w.puts-is, w.add.ensures.made, w.add.ensures.lost) record {
            so_far = put_adds_one p owed frame (lanes c.args.medium.now) q (lanes c.loop-q.medium) c.loop-q.puts.made
                c.loop-q.puts.lost v.so_far c.if-q-self.false (lanes c.speak.new.medium) w.in-Some.left is after;
            calls = calls;
            few = omega arith;
          }
      | in_default w ↦
          let (is, after) =
          rw (
            c.counts.ensures,
            l.ends.0,
            l.ends.1,
            l.ups,
            l.downs,
            c.has_gathered-gathered.ensures,
          ) at w.in_default.ensures.lanes in
          rw w.puts-is record {
            so_far = no_put p owed frame (lanes c.args.medium.now) q (lanes c.loop-q.medium) c.loop-q.puts.made
                c.loop-q.puts.lost v.so_far c.if-q-self.false (lanes c.speak.new.medium) is after;
            calls = calls;
            few = omega arith;
          }
    ]

pub returns-clause-calls : goal.returns-clause-calls
returns-clause-calls g c =
    let all : c.loop-q.q ≡ c.args.self.now.plan.now.boards = omega arith in
    rw all at c.loop-q.invariant.calls

pub returns-clause-after : goal.returns-clause-after
returns-clause-after g c =
    let all : c.loop-q.q ≡ c.args.self.now.plan.now.boards = omega arith in
    rw all at c.loop-q.invariant.so_far
