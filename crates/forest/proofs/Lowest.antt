-- The lowest number that passes a test.
use Rattle.std.proofs.Common.{◌≡◌, ℕ, zero, suc, ◌<◌, ◌≤◌, Bool, true, sym, refl, ap, ◌∙◌, inl, inr, arith}
use Rattle.std.proofs.lemmas.Bool.{cases_eq, cases_lt, cases_Bool, lt-ltb, le-ltb}
use Rattle.forest.specs.Forest.{lowest}

pub lowest_le : (t : ℕ → Bool) (n : ℕ) → lowest t n ≤ n
lowest_le t zero = omega arith
lowest_le t (suc n) = elim (cases_lt (lowest t n) n) [
  | inl l ↦ rw (lt-ltb _ _ l) (omega arith)
  | inr g ↦ rw (le-ltb (lowest t n) n g) (elim (cases_Bool (t n)) [
    | inl e ↦ rw e (omega arith)
    | inr e ↦ rw e (omega arith)
  ])
]

pub lowest_passes : (t : ℕ → Bool) (n : ℕ) → lowest t n < n → t (lowest t n) ≡ true
lowest_passes t zero = λ l. absurd (omega arith)
lowest_passes t (suc n) = elim (cases_lt (lowest t n) n) [
  | inl l ↦ rw (lt-ltb (lowest t n) n l) (λ _. lowest_passes t n l)
  | inr g ↦ rw (le-ltb (lowest t n) n g) (elim (cases_Bool (t n)) [
    | inl e ↦ rw e (λ _. e)
    | inr e ↦ rw e (λ k. absurd (omega arith))
  ])
]

-- none that passes is lower
pub lowest_first : (t : ℕ → Bool) (n k : ℕ) → k < n → t k ≡ true → lowest t n ≤ k
lowest_first t zero k l h = absurd (omega arith)
lowest_first t (suc n) k l h = elim (cases_lt (lowest t n) n) [
  | inl x ↦ rw (lt-ltb (lowest t n) n x) (elim (cases_eq k n) [
    | inl e ↦ omega arith
    | inr d ↦ lowest_first t n k (omega arith) h
  ])
  | inr g ↦ rw (le-ltb (lowest t n) n g) (elim (cases_eq k n) [
    | inl e ↦ rw (ap t (sym e) ∙ h) (omega arith)
    | inr d ↦ absurd (omega (arith, lowest_first t n k (omega arith) h))
  ])
]

-- tests that agree below n have the same lowest
pub lowest_same : (t u : ℕ → Bool) (n : ℕ) → ((k : ℕ) → k < n → t k ≡ u k) → lowest t n ≡ lowest u n
lowest_same t u zero same = refl
lowest_same t u (suc n) same =
    rw (lowest_same t u n (λ k l. same k (omega arith)), same n (omega arith)) refl
