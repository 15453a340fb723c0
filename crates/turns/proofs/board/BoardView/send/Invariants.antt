-- So far the puts to the boards below q.
use Rattle.std.proofs.Common.{◌≤◌}
use Rattle.medium.specs.Calls.{Calls, rules_of}
use Rattle.protocol.specs.Steps.{Sent, due, due_frame}
use Rattle.turns.specs.Called.{put_calls}
use Rattle.turns.proofs.board.BoardView.send.Given as goal

abbrev pub invariant-loop-q : goal.invariant-loop-q
invariant-loop-q g l =
    let A = g.E.Element.algebra in
    let edges = l.self.plan.now.edges.now in
    let boards = l.self.plan.now.boards in
    record {
      so_far : Sent l.self.board (due A boards edges l.self.board l.table.links l.got)
          (due_frame A boards edges l.self.board l.table.links l.copies) (g.D.Medium.lanes l.initial.medium)
          l.q
          (g.D.Medium.lanes l.medium) l.puts.made l.puts.lost;
      calls : Calls (rules_of g.D.Medium.lanes g.D.Medium.takes g.D.Medium.puts) l.initial.medium
          (put_calls (due A boards edges l.self.board l.table.links l.got)
          (due_frame A boards edges l.self.board l.table.links l.copies) l.self.board l.q) l.medium;
      few : l.puts.made ≤ l.q;
    }
