-- Joins of many elements, over any algebra that keeps the laws.
use Rattle.std.proofs.Common.{◌≡◌, ℕ, zero, suc, ◌<◌, ◌≢◌, List, [], ◌∷◌, ◌++◌, sym, refl, ap, ◌∙◌, subst, ap₂, inl}
use Rattle.std.proofs.Common.{inr, arith}
use Rattle.std.proofs.lemmas.Bool.{cases_eq}
use Rattle.element.specs.Algebra.{Algebra, Lawful}
use Rattle.element.specs.Join.{join_all, join_below}

module _ {E : Type 0} (A : Algebra E) where
  -- equal summands
  pub join_below_same : (n : ℕ) (f g : ℕ → E) → ((k : ℕ) → k < n → f k ≡ g k)
      → join_below A n f ≡ join_below A n g
  join_below_same zero f g h = refl
  join_below_same (suc n) f g h =
      ap₂ A.join (join_below_same n f g (λ k l. h k (omega arith))) (h n (omega arith))

module _ {E : Type 0} (A : Algebra E) (L : Lawful A) where
  pub swap_last : (a x y : E) → A.join (A.join a x) y ≡ A.join (A.join a y) x
  swap_last a x y = L.join_assoc a x y ∙ ap (A.join a) (L.join_comm x y) ∙ sym (L.join_assoc a y x)

  pub join_all_append : (xs ys : List E) → join_all A (xs ++ ys) ≡ A.join (join_all A xs) (join_all A ys)
  join_all_append [] ys = sym (L.zero_join (join_all A ys))
  join_all_append (x ∷ xs) ys =
      ap (A.join x) (join_all_append xs ys) ∙ sym (L.join_assoc x (join_all A xs) (join_all A ys))

  pub join_all_one : (x : E) → join_all A (x ∷ []) ≡ x
  join_all_one x = L.join_zero x

  -- one element more at the end
  pub join_all_push : (xs : List E) (x : E) → join_all A (xs ++ (x ∷ [])) ≡ A.join (join_all A xs) x
  join_all_push xs x = join_all_append xs (x ∷ []) ∙ ap (A.join (join_all A xs)) (join_all_one x)

  pub join_below_zeros : (n : ℕ) → join_below A n (λ _. A.zero) ≡ A.zero
  join_below_zeros zero = refl
  join_below_zeros (suc n) = ap (λ x. A.join x A.zero) (join_below_zeros n) ∙ L.zero_join A.zero

  -- the summand at k grows by x, and so does the join
  pub join_below_bump : (n : ℕ) (f f' : ℕ → E) (k : ℕ) (x : E) → k < n → f' k ≡ A.join (f k) x
      → ((m : ℕ) → m ≢ k → f' m ≡ f m) → join_below A n f' ≡ A.join (join_below A n f) x
  join_below_bump zero f f' k x l e h = absurd (omega arith)
  join_below_bump (suc n) f f' k x l e h = elim (cases_eq k n) [
    | inl s ↦
        ap₂ A.join
        (join_below_same A n f' f (λ m b. h m (omega arith)))
        (subst (λ m. f' m ≡ A.join (f m) x) s e)
        ∙ sym (L.join_assoc (join_below A n f) (f n) x)
    | inr d ↦
        ap₂ A.join (join_below_bump n f f' k x (omega arith) e h) (h n (omega arith))
        ∙ swap_last (join_below A n f) x (f n)
  ]
