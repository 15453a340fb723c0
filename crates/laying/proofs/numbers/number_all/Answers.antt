-- One board more.
use Rattle.std.proofs.Common.{◌≡◌, ℕ, List, [], length, take, ap, ◌∙◌, arith}
use Rattle.std.proofs.lemmas.List.{length-set, length-take}
use Rattle.laying.specs.Rows.{Tabulates, flag_at, many}
use Rattle.laying.specs.Tables.{row, board_copies, number_in}
use Rattle.laying.proofs.Gather.{length_more}
use Rattle.laying.proofs.Layers.{filled_more}
use Rattle.laying.proofs.Sizes.{row_size, copies_few, flags_taken}
use Rattle.laying.proofs.numbers.number_all.Goals as goal

pub number_row-next-requires-clause-small : goal.number_row-next-requires-clause-small
number_row-next-requires-clause-small c =
    omega (arith, c.loop-p.invariant.begins, copies_few c.args.kept.now c.args.n c.loop-p.p c.requires.vertices)

pub loop-p-preserved : goal.loop-p-preserved
loop-p-preserved c =
    let table = c.args.kept.now in
    let n = c.args.n in
    let p = c.loop-p.p in
    let kept = row table p in
    let numbers = c.loop-p.numbers in
    let here = c.number_row-next.new.numbers in
    let told = c.number_row-next.ensures in
    let P : ℕ → List ℕ → Type 0 = λ q r. Tabulates r n (number_in table n q) in
    let long : length (take n kept) ≡ n =
    omega (arith, length-take n kept, c.told-kept p c.loop-p-test.true, c.requires.vertices)
    in
    record {
      long = length-set numbers p _ ∙ c.loop-p.invariant.long;
      begins =
          omega (
            arith,
            c.loop-p.invariant.begins,
            told.next,
            length_more (board_copies table n) p,
            row_size kept p n,
            flags_taken kept n (length (take n kept)) (omega arith),
            ap (many (flag_at kept)) long,
          );
      done =
          filled_more
          P
          numbers
          p
          here
          []
          (omega arith)
          c.loop-p.invariant.done
          (λ v h.
          omega (arith, told.held v (omega arith), flags_taken kept n v (omega arith), c.loop-p.invariant.begins));
    }
