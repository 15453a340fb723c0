-- Lists that are made by counting: what stands at a place of them.
use Rattle.std.proofs.Common.{◌≡◌, ℕ, zero, suc, ◌+◌, ◌<◌, ◌≤◌, map, length, get_or, Some, None, ap, ◌∙◌, subst, inl}
use Rattle.std.proofs.Common.{inr, arith}
use Rattle.std.specs.List.{slice_get, range_with_len, AllByRecursion}
use Rattle.std.proofs.lemmas.List.FromFn.{length-map-range_with_len, get_or-map-range_with_len}
use Rattle.std.proofs.lemmas.Bool.{cases_lt}
use Rattle.std.proofs.lemmas.Option.{slice_get-get_or, slice_get_past}

module _ {X : Type 0} (f : ℕ → X) (n i : ℕ) where
  pub get_or_counted : (d : X) → i < n → get_or (map f (range_with_len 0 n)) i d ≡ f i
  get_or_counted d h = let same : 0 + i ≡ i = omega arith in get_or-map-range_with_len f 0 n i i d h same

  pub nth_counted : i < n → slice_get (map f (range_with_len 0 n)) i ≡ Some (f i)
  nth_counted h =
      let inside : i < length (map f (range_with_len 0 n)) = omega (arith, length-map-range_with_len f 0 n) in
      slice_get-get_or (map f (range_with_len 0 n)) i (f i) inside ∙ ap Some (get_or_counted (f i) h)

  pub nth_uncounted : n ≤ i → slice_get (map f (range_with_len 0 n)) i ≡ None
  nth_uncounted h =
      let past : length (map f (range_with_len 0 n)) ≤ i = omega (arith, length-map-range_with_len f 0 n) in
      slice_get_past (map f (range_with_len 0 n)) i past

-- what holds at each number counted holds of all of them, and back
pub all_counted : (P : ℕ → Type 0) (a n : ℕ) → ((i : ℕ) → a ≤ i → i < a + n → P i)
    → AllByRecursion P (range_with_len a n)
all_counted P a zero h = tt
all_counted P a (suc n) h =
    let low : a ≤ a = omega arith in
    let high : a < a + suc n = omega arith in
    (h a low high, all_counted P (a + 1) n (λ i l m. h i (omega arith) (omega arith)))

pub counted_all : (P : ℕ → Type 0) (a n : ℕ) → AllByRecursion P (range_with_len a n) → (i : ℕ) → a ≤ i → i < a + n → P i
counted_all P a zero h i l m = let no : ⊥ = omega arith in absurd no
counted_all P a (suc n) h i l m =
    elim (cases_lt a i) [
      | inl p ↦ counted_all P (a + 1) n h.1 i (omega arith) (omega arith)
      | inr p ↦ let same : a ≡ i = omega arith in subst P same h.0
    ]
