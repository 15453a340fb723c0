-- The copies of the vertices below v are numbered, and next is the number that follows.
use Rattle.std.proofs.Common.{◌≡◌, ◌+◌, length}
use Rattle.laying.specs.Rows.{Tabulates, flag_at, many}
use Rattle.laying.proofs.numbers.number_row.Given as goal

abbrev pub invariant-loop-v : goal.invariant-loop-v
invariant-loop-v l =
    record {
      long : length l.numbers ≡ 1024;
      following : l.next ≡ l.first + many (flag_at l.row) l.v;
      done : Tabulates l.numbers l.v (λ k. l.first + many (flag_at l.row) k);
    }
