-- How many copies and roots the tables say, and the rows as they are counted and written.
use Rattle.std.proofs.Common.{◌≡◌, ℕ, zero, suc, ◌*◌, ◌<◌, ◌≤◌, Bool, false, List, [], ◌++◌, length}
use Rattle.std.proofs.Common.{get_or, take, eqb, None, Option}
use Rattle.std.proofs.Common.{sym, ap, ◌∙◌, inl, inr, arith}
use Rattle.laying.specs.Rows.{flag_at, many, only, passes}
use Rattle.laying.specs.Tables.{row, copy_record, copy_if_kept, row_copies, board_copies, copies_in, number_in}
use Rattle.laying.specs.Tables.{root_at, roots_in}
use Rattle.laying.proofs.Counts.{lists_below_same, many_same}
use Rattle.laying.proofs.Gather.{length_only, many_le, many_one, rows_few}
use Rattle.std.proofs.lemmas.Bool.{cases_lt}
use Rattle.std.proofs.lemmas.List.{length-append, length-take-le, append-nil, take_all, get_or_past, get_or-take}

pub row_size : (keep : List Bool) (p n : ℕ) → length (row_copies keep p n) ≡ many (flag_at keep) n
row_size keep p n = length_only (flag_at keep) (copy_record p) n

pub copies_few : (table : List (List Bool)) (n p : ℕ) → n ≤ 1024 → length (copies_in table n p) ≤ 1024 * p
copies_few table n zero h = omega arith
copies_few table n (suc p) h =
    omega (
      arith,
      length-append (copies_in table n p) (board_copies table n p),
      copies_few table n p h,
      row_size (row table p) p n,
      many_le (flag_at (row table p)) n,
    )

-- a vertex has at most one root
pub roots_few : (owners : List (Option ℕ)) (n b : ℕ) → length (roots_in owners n b) ≤ n
roots_few owners n b =
    rows_few
    (λ q. root_at owners q)
    b
    n
    (λ v.
    let o = get_or owners v None in
    omega (arith, length_only (λ q. passes (λ x. eqb x q) o) (λ q. copy_record q v) b, many_one o b))

-- the numbers below v stay in a row cut after n vertices
pub flags_taken : (row : List Bool) (n v : ℕ) → v ≤ n → many (flag_at (take n row)) v ≡ many (flag_at row) v
flags_taken row n v h =
    many_same (flag_at (take n row)) (flag_at row) v (λ k l. get_or-take n row k false (omega arith))

-- past a row's end no flag is set
copies_past : (keep : List Bool) (p n : ℕ) → length keep ≤ n → row_copies keep p n ≡ row_copies keep p (length keep)
copies_past keep p zero h =
    let none : zero ≡ length keep = omega arith in
    ap (row_copies keep p) none
copies_past keep p (suc n) h =
    elim (cases_lt n (length keep)) [
      | inl l ↦
          let all : suc n ≡ length keep = omega arith in
          ap (row_copies keep p) all
      | inr l ↦
          ap (λ b. row_copies keep p n ++ only b (copy_record p n)) (get_or_past keep n false l)
          ∙ append-nil (row_copies keep p n)
          ∙ copies_past keep p n l
    ]

-- the copies of a row cut after n vertices
copies_taken : (keep : List Bool) (p n : ℕ) → row_copies (take n keep) p (length (take n keep)) ≡ row_copies keep p n
copies_taken keep p n =
    elim (cases_lt n (length keep)) [
      | inl h ↦
          ap (row_copies (take n keep) p) (length-take-le n keep (omega arith))
          ∙ lists_below_same (copy_if_kept (take n keep) p) (copy_if_kept keep p) n
          (λ v l. ap (λ b. only b (copy_record p v)) (get_or-take n keep v false l))
      | inr h ↦ ap (λ r. row_copies r p (length r)) (take_all n keep h) ∙ sym (copies_past keep p n h)
    ]

-- a row of the first b, cut after n vertices
module _ (table : List (List Bool)) (b n p : ℕ) (h : p < b) where
  is_row : row (take b table) p ≡ row table p
  is_row = get_or-take b table p [] h

  pub row_taken : row_copies (take n (row (take b table) p)) p (length (take n (row (take b table) p)))
      ≡ board_copies table n p
  row_taken = ap (λ r. row_copies (take n r) p (length (take n r))) is_row ∙ copies_taken (row table p) p n

-- the numbers of the first b rows
pub number_taken : (table : List (List Bool)) (b n p v : ℕ) → p < b
    → number_in (take b table) n p v ≡ number_in table n p v
number_taken table b n p v h =
    let same = lists_below_same (board_copies (take b table) n) (board_copies table n) p
    (λ q l. ap (λ r. row_copies r q n) (is_row table b n q (omega arith))) in
    omega (arith, ap length same, ap (λ r. many (flag_at r) v) (is_row table b n p h))

-- the copies of the first b rows
pub rows_taken : (table : List (List Bool)) (b n : ℕ) → copies_in (take b table) n b ≡ copies_in table n b
rows_taken table b n =
    lists_below_same (board_copies (take b table) n) (board_copies table n) b
    (λ q l. ap (λ r. row_copies r q n) (is_row table b n q l))
