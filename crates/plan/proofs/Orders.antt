-- Lists of records that rise: how many they are, and how they fall into parts.
use Rattle.std.proofs.Common.{◌≡◌, ◌≢◌, ℕ, zero, suc, ◌+◌, ◌<◌, ◌≤◌, Bool, true, false, ◌&&◌, eqb, ltb}
use Rattle.std.proofs.Common.{List, [], ◌∷◌, ◌++◌, length, get_or, take, drop, filter, refl, ap, ◌∙◌, inl, inr}
use Rattle.std.proofs.Common.{length-append, arith}
use Rattle.std.specs.List.{All, AllPairs}
use Rattle.std.specs.List.Sorted.{IsNonDecreasingBy}
use Rattle.std.proofs.lemmas.List.{take_at, drop_at}
use Rattle.std.proofs.lemmas.List.Elements.{All-nil, All-cons, All-tail}
use Rattle.std.proofs.lemmas.List.Kept.{AllPairs-cons}
use Rattle.std.proofs.lemmas.Bool.{and_parts, cases_order, cases_Bool, eq-eqb, ne_eqb, lt-ltb, le-ltb}
use Rattle.plan.specs.Sound.{each, rising}
use Rattle.plan.specs.Sums.{sum_below}

pub all_from_each : {X : Type 0} (t : X → Bool) (xs : List X) → each t xs ≡ true → All (λ x. t x ≡ true) xs
all_from_each t [] h = All-nil (λ x. t x ≡ true)
all_from_each t (x ∷ xs) h =
    let (a, b) = and_parts (t x) _ h in
    All-cons (λ y. t y ≡ true) x xs a (all_from_each t xs b)

-- neighbours in a transitive relation are enough
pub pairs_from_rising : {X : Type 0} (P : X → Type 0) (R : X → X → Type 0) (before : X → X → Bool)
    → ((x y : X) → P x → P y → before x y ≡ true → R x y) → ((x y z : X) → R x y → R y z → R x z)
    → (xs : List X) → All P xs → rising before xs ≡ true → AllPairs R xs
pairs_from_rising P R before less trans [] p h = λ i j d l b. absurd (omega arith)
pairs_from_rising P R before less trans (x ∷ []) p h = λ i j d l b. absurd (omega arith)
pairs_from_rising P R before less trans (x ∷ y ∷ ys) p h =
    let (a, b) = and_parts (before x y) _ h in
    let rest = pairs_from_rising P R before less trans (y ∷ ys) (All-tail P x (y ∷ ys) p) b in
    let first = less x y (p 0 x (omega arith)) (p 1 x (omega arith)) a in
    AllPairs-cons R x (y ∷ ys)
    (All-cons (R x) y ys first (λ k d l. trans x y _ first (rest 0 (suc k) d (omega arith) (omega arith)))) rest

pub pairs_weaker : {X : Type 0} (P : X → Type 0) (R S : X → X → Type 0)
    → ((x y : X) → P x → P y → R x y → S x y) → (xs : List X) → All P xs → AllPairs R xs → AllPairs S xs
pairs_weaker P R S w xs p o i j d l b =
    w (get_or xs i d) (get_or xs j d) (p i d (omega arith)) (p j d b) (o i j d l b)

pub non_decreasing : {X : Type 0} (f : X → ℕ) (xs : List X) → AllPairs (λ x y. f x ≤ f y) xs → IsNonDecreasingBy f xs
non_decreasing f xs o i j d l b = elim (cases_order i j) [
  | inl e ↦ omega (arith, ap (λ k. f (get_or xs k d)) e)
  | inr n ↦ elim n [
    | inl s ↦ o i j d s b
    | inr s ↦ absurd (omega arith)
  ]
]

-- as many records as there are keys, at most
pub few_keys : {X : Type 0} (key : X → ℕ) (n : ℕ) (xs : List X) → AllPairs (λ x y. key x < key y) xs
    → All (λ x. key x < n) xs → length xs ≤ n
few_keys key n [] o h = omega arith
few_keys {X} key n (x ∷ xs) o h = omega (arith, above (length xs) (omega arith), h (length xs) x (omega arith))
  where
    above : (i : ℕ) → i < length (x ∷ xs) → i ≤ key (get_or (x ∷ xs) i x)
    above zero b = omega arith
    above (suc i) b = omega (arith, above i (omega arith), o i (suc i) x (omega arith) b)

-- one link more: those below it, and its own
pub count_more : {X : Type 0} (f : X → ℕ) (n : ℕ) (xs : List X)
    → length (filter (λ x. ltb (f x) (suc n)) xs)
    ≡ length (filter (λ x. ltb (f x) n) xs) + length (filter (λ x. eqb (f x) n) xs)
count_more f n [] = refl
count_more f n (x ∷ xs) = elim (cases_order (f x) n) [
  | inl e ↦ rw (lt-ltb (f x) (suc n) (omega arith), le-ltb (f x) n (omega arith), eq-eqb (f x) n e)
      (omega (arith, count_more f n xs))
  | inr o ↦ elim o [
    | inl l ↦ rw (lt-ltb (f x) (suc n) (omega arith), lt-ltb (f x) n l, ne_eqb (f x) n (λ e. omega arith))
        (omega (arith, count_more f n xs))
    | inr l ↦ rw (le-ltb (f x) (suc n) l, le-ltb (f x) n (omega arith), ne_eqb (f x) n (λ e. omega arith))
        (count_more f n xs)
  ]
]

pub none_kept : {X : Type 0} (t : X → Bool) (xs : List X) → All (λ x. t x ≡ false) xs → filter t xs ≡ []
none_kept t [] h = refl
none_kept t (x ∷ xs) h = rw (h 0 x (omega arith)) (none_kept t xs (All-tail (λ y. t y ≡ false) x xs h))

pub all_kept : {X : Type 0} (t : X → Bool) (xs : List X) → All (λ x. t x ≡ true) xs → filter t xs ≡ xs
all_kept t [] h = refl
all_kept t (x ∷ xs) h = rw (h 0 x (omega arith), all_kept t xs (All-tail (λ y. t y ≡ true) x xs h))

pub kept_kept : {X : Type 0} (t u : X → Bool) (xs : List X)
    → filter u (filter t xs) ≡ filter (λ x. t x && u x) xs
kept_kept t u [] = refl
kept_kept t u (x ∷ xs) = elim (cases_Bool (t x)) [
  | inl e ↦ rw (e, kept_kept t u xs)
  | inr e ↦ rw (e, kept_kept t u xs)
]

-- no number is below 0
pub none_below : {X : Type 0} (f : X → ℕ) (xs : List X) → filter (λ x. ltb (f x) 0) xs ≡ []
none_below f [] = refl
none_below f (x ∷ xs) = rw (le-ltb (f x) 0 (omega arith)) (none_below f xs)

-- the records below n are those of 0, of 1 and so on
pub sum_before : {X : Type 0} (f : X → ℕ) (xs : List X) (n : ℕ) → length (filter (λ x. ltb (f x) n) xs)
    ≡ sum_below n (λ i. length (filter (λ x. eqb (f x) i) xs))
sum_before f xs zero = ap length (none_below f xs)
sum_before f xs (suc n) =
    count_more f n xs ∙ ap (λ a. a + length (filter (λ x. eqb (f x) n) xs)) (sum_before f xs n)

pub sum_same : (n : ℕ) (f g : ℕ → ℕ) → ((i : ℕ) → i < n → f i ≡ g i) → sum_below n f ≡ sum_below n g
sum_same zero f g h = refl
sum_same (suc n) f g h = rw (sum_same n f g (λ i l. h i (omega arith)), h n (omega arith))

pub same_kept : {X : Type 0} (t u : X → Bool) (xs : List X) → All (λ x. t x ≡ u x) xs → filter t xs ≡ filter u xs
same_kept t u [] h = refl
same_kept t u (x ∷ xs) h = rw (h 0 x (omega arith), same_kept t u xs (All-tail (λ y. t y ≡ u y) x xs h))

-- a list that rises by f falls into the part below n, the part at n and the part above
module _ {X : Type 0} (f : X → ℕ) (n : ℕ) where
  pub in_parts : (xs : List X) → IsNonDecreasingBy f xs
      → xs ≡ filter (λ x. ltb (f x) n) xs ++ (filter (λ x. eqb (f x) n) xs ++ filter (λ x. ltb n (f x)) xs)
  in_parts [] o = refl
  in_parts (x ∷ xs) o =
      let later : All (λ y. f x ≤ f y) xs = λ k d l. o 0 (suc k) d (omega arith) (omega arith) in
      let rest = in_parts xs (λ i j d l b. o (suc i) (suc j) d (omega arith) (omega arith)) in
      elim (cases_order (f x) n) [
        | inl e ↦
            let low : filter (λ y. ltb (f y) n) xs ≡ [] =
            none_kept _ xs (λ k d l. le-ltb _ n (omega (arith, later k d l))) in
            rw (le-ltb (f x) n (omega arith), eq-eqb (f x) n e, le-ltb n (f x) (omega arith), low)
            (ap (λ ys. x ∷ ys) (rw low at rest))
        | inr d ↦ elim d [
          | inl l ↦ rw (lt-ltb (f x) n l, ne_eqb (f x) n (λ e. omega arith), le-ltb n (f x) (omega arith))
              (ap (λ ys. x ∷ ys) rest)
          | inr l ↦
              let low : filter (λ y. ltb (f y) n) xs ≡ [] =
              none_kept _ xs (λ k d b. le-ltb _ n (omega (arith, later k d b))) in
              let level : filter (λ y. eqb (f y) n) xs ≡ [] =
              none_kept _ xs (λ k d b. ne_eqb _ n (λ e. omega (arith, later k d b))) in
              rw (le-ltb (f x) n (omega arith), ne_eqb (f x) n (λ e. omega arith), lt-ltb n (f x) l, low, level)
              (ap (λ ys. x ∷ ys) (rw (low, level) at rest))
        ]
      ]

  -- so those at n stand together, behind those below
  pub part_at : (xs : List X) → IsNonDecreasingBy f xs
      → take (length (filter (λ x. eqb (f x) n) xs)) (drop (length (filter (λ x. ltb (f x) n) xs)) xs)
      ≡ filter (λ x. eqb (f x) n) xs
  part_at xs o =
      let low = filter (λ x. ltb (f x) n) xs in
      let level = filter (λ x. eqb (f x) n) xs in
      let high = filter (λ x. ltb n (f x)) xs in
      ap (λ ys. take (length level) (drop (length low) ys)) (in_parts xs o)
      ∙ ap (take (length level)) (drop_at low (level ++ high) (length low) refl)
      ∙ take_at level high (length level) refl

  pub part_within : (xs : List X) → IsNonDecreasingBy f xs
      → length (filter (λ x. ltb (f x) n) xs) + length (filter (λ x. eqb (f x) n) xs) ≤ length xs
  part_within xs o =
      let low = filter (λ x. ltb (f x) n) xs in
      let level = filter (λ x. eqb (f x) n) xs in
      let high = filter (λ x. ltb n (f x)) xs in
      omega (arith, ap length (in_parts xs o), length-append low (level ++ high), length-append level high)

  -- and there are none, where the record behind those below is not at n
  pub none_at : (xs : List X) → IsNonDecreasingBy f xs → (d : X)
      → (length (filter (λ x. ltb (f x) n) xs) < length xs
      → f (get_or xs (length (filter (λ x. ltb (f x) n) xs)) d) ≢ n)
      → length (filter (λ x. eqb (f x) n) xs) ≡ 0
  none_at [] o d h = refl
  none_at (x ∷ xs) o d h =
      let later : All (λ y. f x ≤ f y) xs = λ k e l. o 0 (suc k) e (omega arith) (omega arith) in
      elim (cases_order (f x) n) [
        | inl e ↦
            let low : filter (λ y. ltb (f y) n) xs ≡ [] =
            none_kept _ xs (λ k i l. le-ltb _ n (omega (arith, later k i l))) in
            absurd ((rw (le-ltb (f x) n (omega arith), low) at h) (omega arith) e)
        | inr c ↦ elim c [
          | inl l ↦ rw (ne_eqb (f x) n (λ e. omega arith))
              (none_at xs (λ i j e k b. o (suc i) (suc j) e (omega arith) (omega arith)) d
              (λ b. (rw (lt-ltb (f x) n l) at h) (omega arith)))
          | inr l ↦
              let level : filter (λ y. eqb (f y) n) xs ≡ [] =
              none_kept _ xs (λ k i b. ne_eqb _ n (λ e. omega (arith, later k i b))) in
              rw (ne_eqb (f x) n (λ e. omega arith), level) refl
        ]
      ]
