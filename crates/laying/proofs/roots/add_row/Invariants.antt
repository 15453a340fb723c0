-- The roots of the vertices below v are appended.
use Rattle.std.proofs.Common.{◌≡◌, ◌++◌, map}
use Rattle.laying.specs.Tables.{root_copy, row_roots}
use Rattle.laying.proofs.roots.add_row.Given as goal

abbrev pub invariant-loop-v : goal.invariant-loop-v
invariant-loop-v l =
    map root_copy l.roots.items ≡ map root_copy l.initial.roots.items ++ row_roots l.owners l.v l.q
