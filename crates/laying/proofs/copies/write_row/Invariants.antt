-- The copies of the vertices below v are appended.
use Rattle.laying.specs.Filled.{Appends}
use Rattle.laying.specs.Tables.{row_copies}
use Rattle.laying.proofs.copies.write_row.Given as goal

abbrev pub invariant-loop-v : goal.invariant-loop-v
invariant-loop-v l = Appends l.initial.out l.out (row_copies l.row l.p l.v)
