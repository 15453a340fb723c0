-- Lists in which each element stands before every later one, by an order of any kind.
use Rattle.std.proofs.Common.{◌≡◌, ℕ, zero, suc, ◌+◌, ◌<◌, Bool, List, [], ◌∷◌, ◌++◌, map, length, get_or, filter}
use Rattle.std.proofs.Common.{subst, inl, inr, arith}
use Rattle.std.specs.List.{range_with_len, flat_map, AllByRecursion}
use Rattle.std.proofs.lemmas.Bool.{cases_order, cases_Bool}
use Rattle.std.proofs.ByRecursion.{All-weaker, All-get_or, All-append, All-map, all_kept_by}
use Rattle.forest.proofs.Filters.{all_joined}

abbrev pub Ordered : {X : Type 0} → (X → X → Type 0) → List X → Type 0
Ordered R [] = Unit {0}
Ordered R (x ∷ xs) = AllByRecursion (R x) xs × Ordered R xs

module _ {X : Type 0} (R : X → X → Type 0) where
  pub ordered_append : (xs ys : List X) → Ordered R xs → Ordered R ys → AllByRecursion (λ x. AllByRecursion (R x) ys) xs
      → Ordered R (xs ++ ys)
  ordered_append [] ys s t h = t
  ordered_append (x ∷ xs) ys s t h = (All-append (R x) xs ys s.0 h.0, ordered_append xs ys s.1 t h.1)

  pub ordered_kept : (t : X → Bool) (xs : List X) → Ordered R xs → Ordered R (filter t xs)
  ordered_kept t [] s = tt
  ordered_kept t (x ∷ xs) s = elim (cases_Bool (t x)) [
    | inl e ↦ rw e (all_kept_by t (R x) xs s.0, ordered_kept t xs s.1)
    | inr e ↦ rw e (ordered_kept t xs s.1)
  ]

  pub ordered_map : {Y : Type 0} (Q : Y → Y → Type 0) (f : Y → X) → ((x y : Y) → Q x y → R (f x) (f y))
      → (ys : List Y) → Ordered Q ys → Ordered R (map f ys)
  ordered_map Q f h [] s = tt
  ordered_map Q f h (y ∷ ys) s =
      (All-map (R (f y)) f ys (All-weaker (Q y) _ (λ x q. h y x q) ys s.0), ordered_map Q f h ys s.1)

  -- one list after the other, where P tells of which list an element is
  pub ordered_joined : (P : ℕ → X → Type 0) → ((p q : ℕ) (x y : X) → p < q → P p x → P q y → R x y)
      → (f : ℕ → List X) → ((p : ℕ) → AllByRecursion (P p) (f p)) → ((p : ℕ) → Ordered R (f p))
      → (a n : ℕ) → Ordered R (flat_map f (range_with_len a n))
  ordered_joined P h f w s a zero = tt
  ordered_joined P h f w s a (suc n) =
      ordered_append (f a) _ (s a) (ordered_joined P h f w s (a + 1) n)
      (All-weaker (P a) _
      (λ x px. all_joined (R x) f (a + 1) n
      (λ q l g. All-weaker (P q) (R x) (λ y py. h a q x y (omega arith) px py) (f q) (w q)))
      (f a) (w a))

  pub ordered_at : (xs : List X) (d : X) → Ordered R xs → (m k : ℕ) → m < k → k < length xs
      → R (get_or xs m d) (get_or xs k d)
  ordered_at [] d s m k l h = absurd (omega arith)
  ordered_at (x ∷ xs) d s m zero l h = absurd (omega arith)
  ordered_at (x ∷ xs) d s zero (suc k) l h = All-get_or (R x) xs k d (omega arith) s.0
  ordered_at (x ∷ xs) d s (suc m) (suc k) l h = ordered_at xs d s.1 m k (omega arith) (omega arith)

  -- no element stands twice, if none stands before itself
  pub ordered_once : ((x : X) → R x x → ⊥) → (xs : List X) (d : X) → Ordered R xs → (m k : ℕ)
      → m < length xs → k < length xs → get_or xs m d ≡ get_or xs k d → m ≡ k
  ordered_once never xs d s m k lm lk e = elim (cases_order m k) [
    | inl same ↦ same
    | inr (inl l) ↦ absurd (never _ (subst (λ x. R x (get_or xs k d)) e (ordered_at xs d s m k l lk)))
    | inr (inr l) ↦ absurd (never _ (subst (λ x. R (get_or xs k d) x) e (ordered_at xs d s k m l lm)))
  ]

pub ordered_counting : (a n : ℕ) → Ordered (λ x y. x < y) (range_with_len a n)
ordered_counting a zero = tt
ordered_counting a (suc n) = (above a (a + 1) n (omega arith), ordered_counting (a + 1) n)
  where
    above : (b a n : ℕ) → b < a → AllByRecursion (λ y. b < y) (range_with_len a n)
    above b a zero l = tt
    above b a (suc n) l = (l, above b (a + 1) n (omega arith))
