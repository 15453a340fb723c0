-- Sums of numbers below n, and over all pairs of boards.
use Rattle.std.proofs.Common.{◌≡◌, ℕ, zero, suc, ◌+◌, ◌-◌, ◌<◌, ◌≤◌, cond, eqb, ◌≢◌, ◌⊎◌, sym, refl, ◌∙◌, subst, inl}
use Rattle.std.proofs.Common.{inr, arith}
use Rattle.std.proofs.lemmas.Bool.{cases_eq}
use Rattle.plan.specs.Sums.{sum_below}
use Rattle.plan.proofs.Orders.{sum_same}

-- the sum over all pairs of boards below n
abbrev pub pairs : ℕ → (ℕ → ℕ → ℕ) → ℕ
pairs n f = sum_below n (λ a. sum_below n (λ b. f a b))

-- the sum over all links: pairs of two boards apart
abbrev pub over_links : ℕ → (ℕ → ℕ → ℕ) → ℕ
over_links n f = pairs n (λ a b. cond (eqb a b) 0 (f a b))

pub sum_le : (n : ℕ) (f g : ℕ → ℕ) → ((k : ℕ) → k < n → f k ≤ g k) → sum_below n f ≤ sum_below n g
sum_le zero f g h = omega arith
sum_le (suc n) f g h = omega (arith, sum_le n f g (λ k l. h k (omega arith)), h n (omega arith))

pub sum_lt : (n : ℕ) (f g : ℕ → ℕ) → ((k : ℕ) → k < n → f k ≤ g k) → (b : ℕ) → b < n → f b < g b
    → sum_below n f < sum_below n g
sum_lt zero f g h b l x = absurd (omega arith)
sum_lt (suc n) f g h b l x = elim (cases_eq b n) [
  | inl e ↦ omega (arith, sum_le n f g (λ k l. h k (omega arith)), rw e at x)
  | inr d ↦ omega (arith, sum_lt n f g (λ k l. h k (omega arith)) b (omega arith) x, h n (omega arith))
]

pub sum_add : (n : ℕ) (f g : ℕ → ℕ) → sum_below n (λ k. f k + g k) ≡ sum_below n f + sum_below n g
sum_add zero f g = refl
sum_add (suc n) f g = omega (arith, sum_add n f g)

pub sum_zero : (n : ℕ) → 0 ≡ sum_below n (λ _. 0)
sum_zero zero = refl
sum_zero (suc n) = omega (arith, sum_zero n)

pub sum_swap : (n m : ℕ) (f : ℕ → ℕ → ℕ)
    → sum_below n (λ a. sum_below m (λ b. f a b)) ≡ sum_below m (λ b. sum_below n (λ a. f a b))
sum_swap zero m f = sum_zero m
sum_swap (suc n) m f = rw (sum_swap n m f) (sym (sum_add m (λ b. sum_below n (λ a. f a b)) (λ b. f n b)))

pub pairs_add : (n : ℕ) (f g : ℕ → ℕ → ℕ) → pairs n (λ a b. f a b + g a b) ≡ pairs n f + pairs n g
pairs_add n f g = sum_same n _ _ (λ a l. sum_add n (f a) (g a)) ∙ sum_add n _ _

pub pairs_swap : (n : ℕ) (f : ℕ → ℕ → ℕ) → pairs n (λ a b. f b a) ≡ pairs n f
pairs_swap n f = sum_swap n n (λ a b. f b a)

pub pairs_le : (n : ℕ) (f g : ℕ → ℕ → ℕ) → ((a b : ℕ) → a < n → b < n → f a b ≤ g a b) → pairs n f ≤ pairs n g
pairs_le n f g h = sum_le n _ _ (λ a la. sum_le n _ _ (λ b lb. h a b la lb))

pub pairs_same : (n : ℕ) (f g : ℕ → ℕ → ℕ) → ((a b : ℕ) → a < n → b < n → f a b ≡ g a b) → pairs n f ≡ pairs n g
pairs_same n f g h = sum_same n _ _ (λ a la. sum_same n _ _ (λ b lb. h a b la lb))

pub pairs_lt : (n : ℕ) (f g : ℕ → ℕ → ℕ) → ((a b : ℕ) → a < n → b < n → f a b ≤ g a b)
    → (p q : ℕ) → p < n → q < n → f p q < g p q → pairs n f < pairs n g
pairs_lt n f g h p q pb qb l =
    sum_lt n _ _ (λ a la. sum_le n _ _ (λ b lb. h a b la lb)) p pb (sum_lt n _ _ (λ b lb. h p b pb lb) q qb l)

-- all below n, or one that is not
pub all_or_one : (n : ℕ) (A B : ℕ → Type 0) → ((k : ℕ) → A k ⊎ B k)
    → ((k : ℕ) → k < n → A k) ⊎ ((k : ℕ) × (k < n) × B k)
all_or_one zero A B h = inl (λ k l. absurd (omega arith))
all_or_one (suc n) A B h = elim (all_or_one n A B h) [
  | inr (k, l, b) ↦ inr (k, omega arith, b)
  | inl all ↦ elim (h n) [
    | inr b ↦ inr (n, omega arith, b)
    | inl a ↦ inl (λ k l. elim (cases_eq k n) [ inl e ↦ rw e a | inr d ↦ all k (omega arith) ])
  ]
]

-- where f grows at b alone, the sum grows by as much
pub sum_grows_at : (n : ℕ) (f g : ℕ → ℕ) (b : ℕ) → b < n → f b ≤ g b → ((k : ℕ) → k ≢ b → g k ≡ f k)
    → sum_below n g ≡ sum_below n f + (g b - f b)
sum_grows_at zero f g b l le h = absurd (omega arith)
sum_grows_at (suc n) f g b l le h = elim (cases_eq b n) [
  | inl e ↦
      let rest = sum_same n g f (λ k l. h k (omega arith)) in
      subst (λ m. sum_below n g + g n ≡ sum_below n f + f n + (g m - f m)) (sym e)
      (omega (arith, rest, subst (λ m. f m ≤ g m) e le))
  | inr d ↦ omega (arith, sum_grows_at n f g b (omega arith) le h, h n (λ e. d (sym e)))
]
