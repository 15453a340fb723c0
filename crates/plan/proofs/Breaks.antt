-- The first record that breaks the rules: the steps of the search for it, and that there is none in sound records.
use Rattle.std.proofs.Common.{◌≡◌, ℕ, ◌+◌, ◌-◌, ◌<◌, ◌≤◌, Bool, true, false, cond, not, ◌&&◌, ◌||◌, eqb, List, []}
use Rattle.std.proofs.Common.{◌∷◌, length, get_or, drop, is_some, Some, None, Option, sym, refl, ap, ◌∙◌, inl, inr}
use Rattle.std.proofs.Common.{zero, suc, add-one, arith}
use Rattle.std.specs.Option.{MatchOption}
use Rattle.std.proofs.lemmas.List.{at_drop_more, at_drop_all}
use Rattle.std.proofs.Math.Bool.{not-not}
use Rattle.std.proofs.lemmas.Bool.{cond-true, cond-false, cases_Bool, ne_eqb}
use Rattle.plan.specs.Sound.{each, first_passes, rising, in_place, keeps_rules}
use Rattle.plan.specs.Faults.{first_bad}

-- the search goes on from record i
abbrev bad_from : {X : Type 0} → (X → Bool) → (X → X → Bool) → X → List X → ℕ → Option ℕ
bad_from fits before none xs i = first_bad fits before (in_place before none xs i) (drop i xs) i

module _ {X : Type 0} (fits : X → Bool) (before : X → X → Bool) (none : X) (xs : List X) where
  -- record i + 1 has to stand after record i
  after_this : (i : ℕ) → in_place before none xs (i + 1) ≡ before (get_or xs i none)
  after_this i =
      let past : eqb (i + 1) 0 ≡ false = ne_eqb (i + 1) 0 (λ e. omega arith) in
      let back : (i + 1) - 1 ≡ i = omega arith in
      ap (λ b x. b || before (get_or xs ((i + 1) - 1) none) x) past ∙ ap (λ k. before (get_or xs k none)) back

  here : (i : ℕ) → i < length xs → bad_from fits before none xs i
      ≡ cond (keeps_rules fits before none xs i)
      (bad_from fits before none xs (i + 1)) (Some i)
  here i l =
      at_drop_more (λ ys. first_bad fits before (in_place before none xs i) ys i) xs i none l
      ∙ ap (λ t. cond (keeps_rules fits before none xs i)
      (first_bad fits before t (drop (i + 1) xs) (i + 1)) (Some i)) (sym (after_this i))

  bad_more : (i : ℕ) → i < length xs
      → keeps_rules fits before none xs i ≡ true
      → bad_from fits before none xs (i + 1) ≡ bad_from fits before none xs i
  bad_more i l e = sym (here i l ∙ cond-true _ _ _ e)

  bad_here : (i : ℕ) → i < length xs
      → keeps_rules fits before none xs i ≡ false
      → Some i ≡ bad_from fits before none xs i
  bad_here i l e = sym (here i l ∙ cond-false _ _ _ e)

  bad_none : (i : ℕ) → length xs ≤ i → None ≡ bad_from fits before none xs i
  bad_none i l =
      sym (at_drop_all (λ ys. first_bad fits before (in_place before none xs i) ys i) xs i l)

  -- as long as each record keeps the rules, the search goes on
  no_bad_before : (i : ℕ) → i ≤ length xs → ((k : ℕ) → k < i → keeps_rules fits before none xs k ≡ true)
      → bad_from fits before none xs i ≡ bad_from fits before none xs 0
  no_bad_before zero l h = refl
  no_bad_before (suc i) l h =
      ap (bad_from fits before none xs) (sym (add-one i))
      ∙ bad_more i (omega arith) (h i (omega arith))
      ∙ no_bad_before i (omega arith) (λ k b. h k (omega arith))

and_swap : (p e r : Bool) → (p && (e && r)) ≡ (e && (p && r))
and_swap true true r = refl
and_swap true false r = refl
and_swap false true r = refl
and_swap false false r = refl

bad_is : {X : Type 0} (fits : X → Bool) (before : X → X → Bool) (after : X → Bool) (xs : List X) (k : ℕ)
    → is_some (first_bad fits before after xs k) ≡ not (first_passes after xs && (each fits xs && rising before xs))
bad_is fits before after [] k = refl
bad_is fits before after (x ∷ xs) k = elim (cases_Bool (after x)) [
  | inl a ↦ elim (cases_Bool (fits x)) [
    | inl f ↦ rw (a, f)
        (bad_is fits before (before x) xs (k + 1)
        ∙ ap not (and_swap (first_passes (before x) xs) (each fits xs) (rising before xs)))
    | inr f ↦ rw (a, f)
  ]
  | inr a ↦ elim (cases_Bool (fits x)) [ inl f ↦ rw (a, f) | inr f ↦ rw (a, f) ]
]

-- each record fits and they rise exactly if none breaks the rules
pub sound_is_unbroken : {X : Type 0} (fits : X → Bool) (before : X → X → Bool) (xs : List X)
    → (each fits xs && rising before xs) ≡ not (is_some (first_bad fits before (λ _. true) xs 0))
sound_is_unbroken fits before [] = refl
sound_is_unbroken fits before (x ∷ xs) =
    sym (not-not _) ∙ ap not (sym (bad_is fits before (λ _. true) (x ∷ xs) 0))

-- what a search by number finds
pub first_found : {X : Type 0} (fits : X → Bool) (before : X → X → Bool) (xs : List X) (r : Option ℕ)
    → MatchOption r
    ((k : ℕ) → 0 ≤ k → k < length xs → (none : X) → keeps_rules fits before none xs k ≡ true)
    (λ i. (0 ≤ i) × (i < length xs) × ((none : X) → keeps_rules fits before none xs i ≡ false)
    × ((k : ℕ) → 0 ≤ k → k < i → (none : X) → keeps_rules fits before none xs k ≡ true))
    → r ≡ first_bad fits before (λ _. true) xs 0
first_found fits before [] None h = refl
first_found fits before [] (Some i) h = absurd (omega (arith, h.1))
first_found fits before (x ∷ xs) None h =
    bad_none fits before x (x ∷ xs) (length (x ∷ xs)) (omega arith)
    ∙ no_bad_before fits before x (x ∷ xs) (length (x ∷ xs)) (omega arith) (λ k b. h k (omega arith) b x)
first_found fits before (x ∷ xs) (Some i) h =
    bad_here fits before x (x ∷ xs) i h.1 (h.2 x)
    ∙ no_bad_before fits before x (x ∷ xs) i (omega (arith, h.1)) (λ k b. h.3 k (omega arith) b x)
