-- The copies of the boards below p are appended.
use Rattle.laying.specs.Filled.{Appends}
use Rattle.laying.specs.Tables.{copies_in}
use Rattle.laying.proofs.tables.Tables.write_copies.Given as goal

abbrev pub invariant-loop-p : goal.invariant-loop-p
invariant-loop-p l = Appends l.initial.out l.out (copies_in l.self.kept l.self.vertices l.p)
