-- So far the test of the boards below q.
use Rattle.std.proofs.Common.{◌≡◌, length, leb}
use Rattle.plan.specs.Links.{edges_between}
use Rattle.protocol.specs.Runs.{accepted_in}
use Rattle.protocol.specs.Turns.{all_others}
use Rattle.turns.proofs.board.BoardView.has_gathered.Given as goal

abbrev pub invariant-loop-q : goal.invariant-loop-q
invariant-loop-q l =
    l.gathered
    ≡ all_others l.self.board l.q (λ r. leb (length (edges_between l.self.plan.now.edges.now r l.self.board))
    (accepted_in l.table.links r l.self.board))
