-- Members of lists: what some element passes, what holds of each, and where a member stands.
use Rattle.std.proofs.Common.{◌≡◌, ℕ, zero, suc, ◌<◌, Bool, true, false, ◌⊎◌, List, [], ◌∷◌, ◌++◌, map, length}
use Rattle.std.proofs.Common.{get_or, filter, refl, ap, ◌∙◌, subst, inl, inr, arith}
use Rattle.std.specs.List.{ContainsAt, AllByRecursion}
use Rattle.std.proofs.lemmas.Bool.{cases_Bool, or_cases, or_left, or_right, false≢true}
use Rattle.forest.specs.Forest.{any}

-- x is an element
abbrev pub Among : {X : Type 0} → X → List X → Type 0
Among x [] = ⊥
Among x (y ∷ ys) = (y ≡ x) ⊎ Among x ys

module _ {X : Type 0} where
  pub any_among : (t : X → Bool) (xs : List X) → any t xs ≡ true → (x : X) × Among x xs × (t x ≡ true)
  any_among t [] e = absurd (false≢true e)
  any_among t (x ∷ xs) e = elim (or_cases (t x) _ e) [
    | inl a ↦ (x, inl refl, a)
    | inr b ↦ let (y, m, h) = any_among t xs b in (y, inr m, h)
  ]

  pub among_any : (t : X → Bool) (xs : List X) (x : X) → Among x xs → t x ≡ true → any t xs ≡ true
  among_any t [] x m h = absurd m
  among_any t (y ∷ ys) x m h = elim m [
    | inl e ↦ or_left _ _ (ap t e ∙ h)
    | inr k ↦ or_right _ _ (among_any t ys x k h)
  ]

  pub any_weaker : (t r : X → Bool) → ((x : X) → t x ≡ true → r x ≡ true) → (xs : List X)
      → any t xs ≡ true → any r xs ≡ true
  any_weaker t r h [] e = e
  any_weaker t r h (x ∷ xs) e = elim (or_cases (t x) _ e) [
    | inl a ↦ or_left _ _ (h x a)
    | inr b ↦ or_right _ _ (any_weaker t r h xs b)
  ]

  pub all_among : (P : X → Type 0) (xs : List X) (x : X) → AllByRecursion P xs → Among x xs → P x
  all_among P [] x a m = absurd m
  all_among P (y ∷ ys) x a m = elim m [ inl e ↦ subst P e a.0 | inr k ↦ all_among P ys x a.1 k ]

  -- where a member stands, and what stands at a place
  pub among_at : (xs : List X) (d x : X) → Among x xs → (c : ℕ) × (c < length xs) × (get_or xs c d ≡ x)
  among_at [] d x m = absurd m
  among_at (y ∷ ys) d x m = elim m [
    | inl e ↦ (0, omega arith, e)
    | inr k ↦ let (c, l, e) = among_at ys d x k in (suc c, omega arith, e)
  ]

  pub at_among : (xs : List X) (d : X) (c : ℕ) → c < length xs → Among (get_or xs c d) xs
  at_among [] d c l = absurd (omega arith)
  at_among (x ∷ xs) d zero l = inl refl
  at_among (x ∷ xs) d (suc c) l = inr (at_among xs d c (omega arith))

  -- the same by places
  pub among_has : (xs : List X) (x : X) → Among x xs → ContainsAt xs x
  among_has [] x m = absurd m
  among_has (y ∷ ys) x m = elim m [
    | inl e ↦ (0, omega arith, λ _. e)
    | inr k ↦ let (c, l, at) = among_has ys x k in (suc c, omega arith, at)
  ]

  pub has_among : (xs : List X) (x : X) → ContainsAt xs x → Among x xs
  has_among xs x (c, l, at) = subst (λ y. Among y xs) (at x) (at_among xs x c l)

  pub among_left : (xs ys : List X) (x : X) → Among x xs → Among x (xs ++ ys)
  among_left [] ys x m = absurd m
  among_left (y ∷ xs) ys x m = elim m [ inl e ↦ inl e | inr k ↦ inr (among_left xs ys x k) ]

  pub among_right : (xs ys : List X) (x : X) → Among x ys → Among x (xs ++ ys)
  among_right [] ys x m = m
  among_right (y ∷ xs) ys x m = inr (among_right xs ys x m)

  -- a filter keeps what passes
  pub among_kept : (t : X → Bool) (xs : List X) (x : X) → Among x xs → t x ≡ true → Among x (filter t xs)
  among_kept t [] x m h = m
  among_kept t (y ∷ ys) x m h = elim m [
    | inl e ↦ rw (ap t e ∙ h) (inl e)
    | inr k ↦
        let rest = among_kept t ys x k h in
        elim (cases_Bool (t y)) [ inl a ↦ rw a (inr rest) | inr a ↦ rw a rest ]
  ]

  -- a filter that all or none pass
  pub kept_none : (t : X → Bool) (xs : List X) → AllByRecursion (λ x. t x ≡ false) xs → filter t xs ≡ []
  kept_none t [] h = refl
  kept_none t (x ∷ xs) h = rw h.0 (kept_none t xs h.1)

  pub kept_all : (t : X → Bool) (xs : List X) → AllByRecursion (λ x. t x ≡ true) xs → filter t xs ≡ xs
  kept_all t [] h = refl
  kept_all t (x ∷ xs) h = rw h.0 (ap (λ ys. x ∷ ys) (kept_all t xs h.1))

  pub all_given : (P : X → Type 0) → ((x : X) → P x) → (xs : List X) → AllByRecursion P xs
  all_given P h [] = tt
  all_given P h (x ∷ xs) = (h x, all_given P h xs)

pub among_map : {X Y : Type 0} (f : X → Y) (xs : List X) (x : X) → Among x xs → Among (f x) (map f xs)
among_map f [] x m = absurd m
among_map f (y ∷ ys) x m = elim m [ inl e ↦ inl (ap f e) | inr k ↦ inr (among_map f ys x k) ]
