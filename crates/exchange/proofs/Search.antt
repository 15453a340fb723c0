-- A search for the lowest number that passes, from 0 up.
use Rattle.std.proofs.Common.{◌≡◌, ℕ, zero, suc, ◌<◌, ◌≤◌, Bool, true, false, Some, None, Option, sym, refl, ap, ◌∙◌}
use Rattle.std.proofs.Common.{inl, inr}
use Rattle.std.proofs.Common.{arith}
use Rattle.std.specs.Option.{MatchOption}
use Rattle.std.proofs.lemmas.Bool.{cases_eq, lt-ltb, le-ltb}
use Rattle.forest.specs.Forest.{lowest}

here : (t : ℕ → Bool) (k : ℕ) → lowest t k ≡ k → t k ≡ true → lowest t (suc k) ≡ k
here t k none passes = rw (none, le-ltb k k (omega arith), passes) refl

-- none below k, but k: it is the lowest below any n past it
pub lowest_found : (t : ℕ → Bool) (k : ℕ) → lowest t k ≡ k → t k ≡ true → (n : ℕ) → k < n → lowest t n ≡ k
lowest_found t k none passes zero l = absurd (omega arith)
lowest_found t k none passes (suc n) l = elim (cases_eq k n) [
  | inl e ↦ ap (λ x. lowest t (suc x)) (sym e) ∙ here t k none passes
  | inr d ↦
      let below : k < n = omega arith in
      rw (lowest_found t k none passes n below, lt-ltb k n below) refl
]

-- none passes below k
none_below : (t : ℕ → Bool) (k : ℕ) → ((i : ℕ) → i < k → t i ≡ false) → lowest t k ≡ k
none_below t zero h = refl
none_below t (suc k) h =
    let none = none_below t k (λ i l. h i (omega arith)) in
    rw (none, le-ltb k k (omega arith), h k (omega arith)) refl

-- what a search over the numbers below m, which is n, found is the lowest that passes
pub lowest_from_find : (t : ℕ → Bool) (m n : ℕ) → m ≡ n → (r : Option ℕ)
    → MatchOption r ((k : ℕ) → 0 ≤ k → k < m → t k ≡ false)
    (λ i. (0 ≤ i) × (i < m) × (t i ≡ true) × ((k : ℕ) → 0 ≤ k → k < i → t k ≡ false))
    → MatchOption r (lowest t n ≡ n) (λ i. (i < n) × (i ≡ lowest t n))
lowest_from_find t m n same None h = none_below t n (λ k l. h k (omega arith) (omega (arith, same, l)))
lowest_from_find t m n same (Some i) h =
    let none = none_below t i (λ k l. h.3 k (omega arith) l) in
    let below : i < n = omega (arith, same, h.1) in
    (below, sym (lowest_found t i none h.2 n below))
