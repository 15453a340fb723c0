-- The copies of the boards below p are numbered, and board p's begin at the next number.
use Rattle.std.proofs.Common.{◌≡◌, ℕ, ◌<◌, length}
use Rattle.laying.specs.Rows.{Tabulates}
use Rattle.laying.specs.Tables.{row, copies_in, number_in}
use Rattle.laying.proofs.numbers.number_all.Given as goal

abbrev pub invariant-loop-p : goal.invariant-loop-p
invariant-loop-p l =
    record {
      long : length l.numbers ≡ 8;
      begins : l.next ≡ length (copies_in l.kept l.n l.p);
      done : (q : ℕ) → q < l.p → Tabulates (row l.numbers q) l.n (number_in l.kept l.n q);
    }
