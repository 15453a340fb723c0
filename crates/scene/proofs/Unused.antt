-- Words past the used ones are zero: said of a contribution, and of the words in the bytes.
use Rattle.std.proofs.Common.{◌≡◌, ℕ, zero, suc, ◌+◌, ◌*◌, ◌<◌, ◌≤◌, cond, ltb, List, sym, ap, ◌∙◌, inl, inr, arith}
use Rattle.std.proofs.lemmas.Bool.{cases_lt, cond-true, cond-false, lt-ltb, le-ltb}
use Rattle.element.specs.Algebra.{first_words}
use Rattle.element.specs.declared.words.Words.{Words}
use Rattle.scene.specs.Layout.{word_at, words_at}

-- one word: kept if it is used, and else zero
cleared : (j used x : ℕ) → cond (ltb j used) x 0 ≡ x → used ≤ j → x ≡ 0
cleared j used x h past = sym h ∙ cond-false (ltb j used) x 0 (le-ltb j used past)

uncleared : (j used x : ℕ) → (used ≤ j → x ≡ 0) → cond (ltb j used) x 0 ≡ x
uncleared j used x h =
    elim (cases_lt j used) [
      | inl l ↦ cond-true (ltb j used) x 0 (lt-ltb j used l)
      | inr m ↦ cond-false (ltb j used) x 0 (le-ltb j used m) ∙ sym (h m)
    ]

module _ (b : List ℕ) (p used : ℕ) where
  pub zero_past : (w : Words) → words_at b p ≡ w → first_words used w ≡ w
      → (j : ℕ) → j < 3 → used ≤ j → word_at b (p + 4 * j) ≡ 0
  zero_past w is h zero l past =
      let same : p + 4 * 0 ≡ p = omega arith in
      ap (word_at b) same ∙ ap (λ v. v.x) is ∙ cleared 0 used w.x (ap (λ v. v.x) h) past
  zero_past w is h (suc zero) l past = ap (λ v. v.y) is ∙ cleared 1 used w.y (ap (λ v. v.y) h) past
  zero_past w is h (suc (suc zero)) l past = ap (λ v. v.z) is ∙ cleared 2 used w.z (ap (λ v. v.z) h) past
  zero_past w is h (suc (suc (suc j))) l past = let no : ⊥ = omega arith in absurd no

  pub kept_same : ((j : ℕ) → j < 3 → used ≤ j → word_at b (p + 4 * j) ≡ 0)
      → first_words used (words_at b p) ≡ words_at b p
  kept_same h =
      let same : p ≡ p + 4 * 0 = omega arith in
      let first = uncleared 0 used (word_at b p) (λ m. ap (word_at b) same ∙ h 0 (omega arith) m) in
      let second = uncleared 1 used (word_at b (p + 4)) (h 1 (omega arith)) in
      let third = uncleared 2 used (word_at b (p + 8)) (h 2 (omega arith)) in
      λ i. record { x = first i; y = second i; z = third i }
