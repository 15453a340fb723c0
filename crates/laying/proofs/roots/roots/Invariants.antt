-- The roots of the boards below q.
use Rattle.std.proofs.Common.{◌≡◌, length, map}
use Rattle.laying.specs.Tables.{root_copy, roots_in}
use Rattle.laying.proofs.roots.roots.Given as goal

abbrev pub invariant-loop-q : goal.invariant-loop-q
invariant-loop-q l = map root_copy l.roots.items ≡ roots_in l.owners (length l.owners) l.q
