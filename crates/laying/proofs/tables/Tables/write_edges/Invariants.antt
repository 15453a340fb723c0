-- The edges from the boards below p are appended.
use Rattle.laying.specs.Filled.{Appends}
use Rattle.laying.specs.Tables.{edges_in}
use Rattle.laying.proofs.tables.Tables.write_edges.Given as goal

abbrev pub invariant-loop-p : goal.invariant-loop-p
invariant-loop-p l = Appends l.initial.out l.out (edges_in l.self.kept l.self.numbers l.self.roots.items l.p)
