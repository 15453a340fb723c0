-- Counting and gathering number by number, and lists written one after another.
use Rattle.std.proofs.Common.{◌≡◌, ℕ, zero, suc, ◌+◌, ◌<◌, ◌≤◌, Bool, true, false, ◌||◌, List, [], ◌∷◌, ◌++◌, length}
use Rattle.std.proofs.Common.{take, drop, set, eqb, ltb, Some, None, Option}
use Rattle.std.proofs.Common.{sym, refl, ap, ◌∙◌, inl, inr, add-zero, zero-add, add-one, arith}
use mir.Val.{bool_byte}
use Rattle.std.proofs.lemmas.Bool.{cases_eq, le-ltb}
use Rattle.std.proofs.lemmas.Bool.Decides.{nat_tests}
use Rattle.std.proofs.lemmas.List.{append_assoc, length-append, take-append-drop, take_at, drop_at, drop-drop}
use Rattle.std.proofs.lemmas.List.{length-take-le, set_split}
use Rattle.laying.specs.Rows.{some, many, passes, lists_below, only, placed}

pub lists_below_more : {X : Type 0} (f : ℕ → List X) (n : ℕ) → lists_below f (n + 1) ≡ lists_below f n ++ f n
lists_below_more f n = ap (lists_below f) (add-one n)

pub some_more : (t : ℕ → Bool) (n : ℕ) → some t (n + 1) ≡ (some t n || t n)
some_more t n = ap (some t) (add-one n)

pub byte_le : (b : Bool) → bool_byte b ≤ 1
byte_le true = omega arith
byte_le false = omega arith

pub many_le : (t : ℕ → Bool) (n : ℕ) → many t n ≤ n
many_le t zero = omega arith
many_le t (suc n) = omega (arith, many_le t n, byte_le (t n))

length_one : {X : Type 0} (b : Bool) (x : X) → length (only b x) ≡ bool_byte b
length_one true x = refl
length_one false x = refl

-- as many records as numbers that pass
pub length_only : {X : Type 0} (t : ℕ → Bool) (f : ℕ → X) (n : ℕ)
    → length (lists_below (λ v. only (t v) (f v)) n) ≡ many t n
length_only t f zero = refl
length_only t f (suc n) =
    omega (
      arith,
      length-append (lists_below (λ v. only (t v) (f v)) n) (only (t n) (f n)),
      length_only t f n,
      length_one (t n) (f n),
    )

pub length_more : {X : Type 0} (f : ℕ → List X) (n : ℕ)
    → length (lists_below f (n + 1)) ≡ length (lists_below f n) + length (f n)
length_more f n = ap length (lists_below_more f n) ∙ length-append (lists_below f n) (f n)

-- what is gathered below n has room for each list
pub room : {X : Type 0} (f : ℕ → List X) (i n : ℕ) → i < n
    → length (lists_below f i) + length (f i) ≤ length (lists_below f n)
room f i zero h = absurd (omega arith)
room f i (suc n) h =
    elim (cases_eq i n) [
      | inl e ↦
          omega (
            arith,
            length-append (lists_below f n) (f n),
            ap (λ k. length (lists_below f k)) e,
            ap (λ k. length (f k)) e,
          )
      | inr d ↦
          let below : i < n = omega arith in
          omega (arith, room f i n below, length-append (lists_below f n) (f n))
    ]

-- one number equals m, if it is below n
many_eqb : (m n : ℕ) → many (eqb m) n ≡ bool_byte (ltb m n)
many_eqb m zero = ap bool_byte (sym (le-ltb m 0 (omega arith)))
many_eqb m (suc n) = ap (λ k. k + bool_byte (eqb m n)) (many_eqb m n) ∙ last
  where
    last : bool_byte (ltb m n) + bool_byte (eqb m n) ≡ bool_byte (ltb m (suc n))
    last = grind (arith, nat_tests)

none_pass : (n : ℕ) → many (λ q. false) n ≡ 0
none_pass zero = refl
none_pass (suc n) = omega (arith, none_pass n)

-- at most one number is the one that there is
pub many_one : (o : Option ℕ) (n : ℕ) → many (λ q. passes (λ x. eqb x q) o) n ≤ 1
many_one None n = omega (arith, none_pass n)
many_one (Some m) n = omega (arith, many_eqb m n, byte_le (ltb m n))

module _ {X : Type 0} (f : ℕ → ℕ → List X) where
  rows_none : (b : ℕ) → length (lists_below (λ q. lists_below (f q) 0) b) ≡ 0
  rows_none zero = refl
  rows_none (suc b) =
      omega (arith, length-append (lists_below (λ q. lists_below (f q) 0) b) (lists_below (f b) 0), rows_none b)

  -- each row goes on by one list
  rows_more : (n b : ℕ)
      → length (lists_below (λ q. lists_below (f q) (suc n)) b)
      ≡ length (lists_below (λ q. lists_below (f q) n) b) + length (lists_below (λ q. f q n) b)
  rows_more n zero = refl
  rows_more n (suc b) =
      omega (
        arith,
        rows_more n b,
        length-append (lists_below (λ q. lists_below (f q) (suc n)) b) (lists_below (f b) (suc n)),
        length-append (lists_below (f b) n) (f b n),
        length-append (lists_below (λ q. lists_below (f q) n) b) (lists_below (f b) n),
        length-append (lists_below (λ q. f q n) b) (f b n),
      )

  -- rows that have at most one element at each number, all rows together
  pub rows_few : (b n : ℕ) → ((v : ℕ) → length (lists_below (λ q. f q v) b) ≤ 1)
      → length (lists_below (λ q. lists_below (f q) n) b) ≤ n
  rows_few b zero h = omega (arith, rows_none b)
  rows_few b (suc n) h = omega (arith, rows_more n b, rows_few b n h, h n)

pub placed_none : {X : Type 0} (xs : List X) (k : ℕ) → placed xs k [] ≡ xs
placed_none xs k = ap (λ n. take k xs ++ drop n xs) (add-zero k) ∙ take-append-drop k xs

pub placed_one : {X : Type 0} (xs : List X) (k : ℕ) (x : X) → k < length xs → set xs k x ≡ placed xs k (x ∷ [])
placed_one xs k x h = set_split xs k x h ∙ ap (λ n. take k xs ++ x ∷ drop n xs) (sym (add-one k))

pub placed_front : {X : Type 0} (xs ys : List X) → placed xs 0 ys ≡ ys ++ drop (length ys) xs
placed_front xs ys = ap (λ n. ys ++ drop n xs) (zero-add (length ys))

-- a list written behind one that was written
pub placed_more : {X : Type 0} (xs ys zs : List X) (k : ℕ) → k ≤ length xs
    → placed (placed xs k ys) (k + length ys) zs ≡ placed xs k (ys ++ zs)
placed_more xs ys zs k h =
    let a = take k xs in
    let n = k + length ys in
    let d = drop n xs in
    let size : length (a ++ ys) ≡ n = omega (arith, length-append a ys, length-take-le k xs h) in
    let whole : placed xs k ys ≡ (a ++ ys) ++ d = sym (append_assoc a ys d) in
    let front : take n (placed xs k ys) ≡ a ++ ys = ap (take n) whole ∙ take_at (a ++ ys) d n size in
    let rest : drop n (placed xs k ys) ≡ d = ap (drop n) whole ∙ drop_at (a ++ ys) d n size in
    let far : n + length zs ≡ k + length (ys ++ zs) = omega (arith, length-append ys zs) in
    let behind : drop (n + length zs) (placed xs k ys) ≡ drop (k + length (ys ++ zs)) xs =
    sym (drop-drop (length zs) n (placed xs k ys))
    ∙ ap (drop (length zs)) rest
    ∙ drop-drop (length zs) n xs
    ∙ ap (λ m. drop m xs) far
    in
    ap (λ l. l ++ (zs ++ drop (n + length zs) (placed xs k ys))) front
    ∙ ap (λ l. (a ++ ys) ++ (zs ++ l)) behind
    ∙ append_assoc a ys (zs ++ drop (k + length (ys ++ zs)) xs)
    ∙ ap (λ l. a ++ l) (sym (append_assoc ys zs (drop (k + length (ys ++ zs)) xs)))
