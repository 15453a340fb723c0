-- So far the lanes of the boards below q are taken.
use Rattle.std.proofs.Common.{◌≡◌, ◌*◌, ◌≤◌, false, replicate}
use Rattle.medium.specs.Calls.{Calls, rules_of}
use Rattle.protocol.specs.Steps.{received, lanes_step}
use Rattle.turns.specs.Called.{take_calls}
use Rattle.turns.proofs.board.BoardView.receive.Given as goal

abbrev pub invariant-loop-q : goal.invariant-loop-q
invariant-loop-q g l =
    let lanes = g.D.Medium.lanes in
    record {
      so_far : received l.table.links l.copies l.haul.accepted (lanes l.medium) l.haul.taken l.haul.got
          ≡ lanes_step g.E.Element.algebra l.self.plan.now.edges.now l.self.board l.q
          (received l.initial.table.links l.initial.copies 0 (lanes l.initial.medium) 0 (replicate 8 false));
      calls : Calls (rules_of lanes g.D.Medium.takes g.D.Medium.puts) l.initial.medium
          (take_calls (lanes l.initial.medium) l.self.board l.q) l.medium;
      few : l.haul.taken ≤ 64 * l.q;
    }
