-- Filters and joins of the numbers from a on.
use Rattle.std.proofs.Common.{◌≡◌, ℕ, zero, suc, ◌+◌, ◌<◌, ◌≤◌, Bool, true, false, ◌≢◌, List, [], ◌∷◌, ◌++◌, length}
use Rattle.std.proofs.Common.{sum_by, filter, sym, refl, ap, ◌∙◌, ap₂, inl, inr, arith}
use Rattle.std.specs.List.{range_with_len, flat_map, AllByRecursion}
use Rattle.std.proofs.lemmas.List.{append-nil, append_assoc, length-append}
use Rattle.std.proofs.lemmas.Bool.{cases_eq, cases_Bool, cond-true}
use Rattle.std.proofs.lemmas.List.Elements.{filter-append}
use Rattle.std.proofs.ByRecursion.{All-weaker, All-append}
use Rattle.std.proofs.lemmas.List.Sums.{sum_by-cons}
use Rattle.forest.proofs.Members.{Among, among_left, among_right, kept_none}

pub counting_split : (a m n : ℕ) → range_with_len a (m + n) ≡ range_with_len a m ++ range_with_len (a + m) n
counting_split a zero n = ap₂ range_with_len a+0 zero+n
  where
    a+0 : a ≡ a + 0
    a+0 = omega arith

    zero+n : 0 + n ≡ n
    zero+n = omega arith
counting_split a (suc m) n =
    ap (range_with_len a) shift
    ∙ ap (λ xs. a ∷ xs) (counting_split (a + 1) m n ∙ ap (λ b. range_with_len (a + 1) m ++ range_with_len b n) sum)
  where
    shift : suc m + n ≡ suc (m + n)
    shift = omega arith

    sum : a + 1 + m ≡ a + suc m
    sum = omega arith

pub counting_next : (n : ℕ) → range_with_len 0 (suc n) ≡ range_with_len 0 n ++ (n ∷ [])
counting_next n = ap (range_with_len 0) next ∙ counting_split 0 n 1 ∙ ap (λ b. range_with_len 0 n ++ (b ∷ [])) at_n
  where
    next : suc n ≡ n + 1
    next = omega arith

    at_n : 0 + n ≡ n
    at_n = omega arith

-- the numbers below n, cut at p
pub counting_cut : (p n : ℕ) → p < n
    → (r : ℕ) × (range_with_len 0 n ≡ range_with_len 0 p ++ (p ∷ range_with_len (p + 1) r))
counting_cut p n l = cut _ (rest p n l).1
  where
    rest : (p n : ℕ) → p < n → (r : ℕ) × (n ≡ p + suc r)
    rest zero zero l = absurd (omega arith)
    rest zero (suc n) l = (n, omega arith)
    rest (suc p) zero l = absurd (omega arith)
    rest (suc p) (suc n) l = let (r, e) = rest p n (omega arith) in (r, omega arith)

    at_p : 0 + p ≡ p
    at_p = omega arith

    cut : (r : ℕ) → n ≡ p + suc r
        → (r : ℕ) × (range_with_len 0 n ≡ range_with_len 0 p ++ (p ∷ range_with_len (p + 1) r))
    cut r e = (
      r,
      ap (range_with_len 0) e ∙ counting_split 0 p (suc r)
          ∙ ap (λ b. range_with_len 0 p ++ range_with_len b (suc r)) at_p,
    )

-- what a filter of 0, 1, 2 .. keeps
pub kept_within : (t : ℕ → Bool) (a n : ℕ)
    → AllByRecursion (λ x. (t x ≡ true) × (a ≤ x) × (x < a + n)) (filter t (range_with_len a n))
kept_within t a zero = tt
kept_within t a (suc n) =
    let rest : AllByRecursion (λ x. (t x ≡ true) × (a ≤ x) × (x < a + suc n)) (filter t (range_with_len (a + 1) n)) =
    All-weaker _ _ (λ x h. (h.0, omega arith, omega arith)) _ (kept_within t (a + 1) n) in
    elim (cases_Bool (t a)) [ inl e ↦ rw e ((e, omega arith, omega arith), rest) | inr e ↦ rw e rest ]

pub among_counted : (t : ℕ → Bool) (v a n : ℕ) → t v ≡ true → a ≤ v → v < a + n
    → Among v (filter t (range_with_len a n))
among_counted t v a zero h l g = absurd (omega arith)
among_counted t v a (suc n) h l g = elim (cases_eq a v) [
  | inl e ↦ rw (ap t e ∙ h) (inl e)
  | inr d ↦
      let rest = among_counted t v (a + 1) n h (omega arith) (omega arith) in
      elim (cases_Bool (t a)) [ inl y ↦ rw y (inr rest) | inr y ↦ rw y rest ]
]

-- the kept ones below n, cut at one of them
pub kept_cut : (t : ℕ → Bool) (v n : ℕ) → v < n → t v ≡ true
    → (rest : List ℕ) × (filter t (range_with_len 0 n) ≡ filter t (range_with_len 0 v) ++ (v ∷ rest))
kept_cut t v n l h =
    let (r, e) = counting_cut v n l in (
      filter t (range_with_len (v + 1) r),
      ap (filter t) e ∙ filter-append t (range_with_len 0 v) (v ∷ range_with_len (v + 1) r)
          ∙ ap (λ zs. filter t (range_with_len 0 v) ++ zs) (cond-true (t v) _ _ h),
    )

module _ {X : Type 0} where
  pub joined_append : (f : ℕ → List X) (xs ys : List ℕ) → flat_map f (xs ++ ys) ≡ flat_map f xs ++ flat_map f ys
  joined_append f [] ys = refl
  joined_append f (x ∷ xs) ys =
      ap (λ zs. f x ++ zs) (joined_append f xs ys) ∙ sym (append_assoc (f x) (flat_map f xs) (flat_map f ys))

  -- the lists of those below n, one after the other, cut at p
  pub joined_cut : (f : ℕ → List X) (p n : ℕ) → p < n
      → (rest : List X) × (flat_map f (range_with_len 0 n) ≡ flat_map f (range_with_len 0 p) ++ (f p ++ rest))
  joined_cut f p n l =
      let (r, e) = counting_cut p n l in (
        flat_map f (range_with_len (p + 1) r),
        ap (flat_map f) e
            ∙ joined_append f (range_with_len 0 p) (p ∷ range_with_len (p + 1) r),
      )

  pub all_joined : (P : X → Type 0) (f : ℕ → List X) (a n : ℕ)
      → ((p : ℕ) → a ≤ p → p < a + n → AllByRecursion P (f p)) → AllByRecursion P (flat_map f (range_with_len a n))
  all_joined P f a zero h = tt
  all_joined P f a (suc n) h =
      All-append P (f a) _ (h a (omega arith) (omega arith))
      (all_joined P f (a + 1) n (λ p l g. h p (omega arith) (omega arith)))

  pub among_joined : (f : ℕ → List X) (x : X) (p a n : ℕ) → a ≤ p → p < a + n → Among x (f p)
      → Among x (flat_map f (range_with_len a n))
  among_joined f x p a zero l g m = absurd (omega arith)
  among_joined f x p a (suc n) l g m = elim (cases_eq a p) [
    | inl e ↦ among_left (f a) _ x (rw e m)
    | inr d ↦ among_right (f a) _ x (among_joined f x p (a + 1) n (omega arith) (omega arith) m)
  ]

  pub length_joined : {Y : Type 0} (f : Y → List X) (ys : List Y)
      → length (flat_map f ys) ≡ sum_by (λ y. length (f y)) ys
  length_joined f [] = refl
  length_joined f (y ∷ ys) =
      length-append (f y) (flat_map f ys) ∙ ap (λ n. length (f y) + n) (length_joined f ys)
      ∙ sym (sum_by-cons (λ y. length (f y)) y ys)

  pub kept_joined_none : (t : X → Bool) (f : ℕ → List X) (a n : ℕ)
      → ((k : ℕ) → a ≤ k → k < a + n → AllByRecursion (λ x. t x ≡ false) (f k))
      → filter t (flat_map f (range_with_len a n)) ≡ []
  kept_joined_none t f a n h = kept_none t _ (all_joined (λ x. t x ≡ false) f a n h)

  -- a filter that only elements of the list number p pass
  pub kept_joined : (t : X → Bool) (f : ℕ → List X) (p : ℕ)
      → ((k : ℕ) → k ≢ p → AllByRecursion (λ x. t x ≡ false) (f k))
      → (a n : ℕ) → a ≤ p → p < a + n → filter t (flat_map f (range_with_len a n)) ≡ filter t (f p)
  kept_joined t f p h a zero l g = absurd (omega arith)
  kept_joined t f p h a (suc n) l g = filter-append t (f a) _ ∙ elim (cases_eq a p) [
    | inl e ↦
        ap (λ zs. filter t (f a) ++ zs) (kept_joined_none t f (a + 1) n (λ k x y. h k (omega arith)))
        ∙ append-nil (filter t (f a)) ∙ ap (λ k. filter t (f k)) e
    | inr d ↦
        ap (λ zs. zs ++ filter t (flat_map f (range_with_len (a + 1) n))) (kept_none t (f a) (h a d))
        ∙ kept_joined t f p h (a + 1) n (omega arith) (omega arith)
  ]
