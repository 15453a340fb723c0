-- Some element passes: of a list, and of the numbers below n.
use Rattle.std.proofs.Common.{◌≡◌, ℕ, zero, suc, ◌+◌, ◌<◌, Bool, true, false, ◌&&◌, ◌||◌, List, [], ◌∷◌, length}
use Rattle.std.proofs.Common.{◌++◌, take, get_or}
use Rattle.std.proofs.lemmas.List.{take_more}
use Rattle.std.proofs.Common.{sym, refl, ap, ◌∙◌, arith}
use Rattle.std.proofs.Math.Bool.{or-false, or-true, or_assoc}
use Rattle.std.specs.List.{AllByRecursion}
use Rattle.forest.specs.Forest.{any}
use Rattle.laying.specs.Rows.{some}

or_pairs : (a b c d : Bool) → ((a || b) || (c || d)) ≡ ((a || c) || (b || d))
or_pairs true b c d = refl
or_pairs false true c d = sym (or-true c) ∙ pick c
  where
    pick : (x : Bool) → (x || true) ≡ (x || (true || d))
    pick x = refl
or_pairs false false c d = refl

module _ {X : Type 0} where
  pub any_same : (f g : X → Bool) → ((x : X) → f x ≡ g x) → (xs : List X) → any f xs ≡ any g xs
  any_same f g h [] = refl
  any_same f g h (x ∷ xs) = ap (λ b. b || any f xs) (h x) ∙ ap (λ b. g x || b) (any_same f g h xs)

  pub any_same_all : (P : X → Type 0) (f g : X → Bool) → ((x : X) → P x → f x ≡ g x)
      → (xs : List X) → AllByRecursion P xs → any f xs ≡ any g xs
  any_same_all P f g h [] a = refl
  any_same_all P f g h (x ∷ xs) a =
      ap (λ b. b || any f xs) (h x a.0) ∙ ap (λ b. g x || b) (any_same_all P f g h xs a.1)

  any_none : (xs : List X) → any (λ x. false) xs ≡ false
  any_none [] = refl
  any_none (x ∷ xs) = any_none xs

  any_or : (f g : X → Bool) (xs : List X) → any (λ x. f x || g x) xs ≡ (any f xs || any g xs)
  any_or f g [] = refl
  any_or f g (x ∷ xs) =
      ap (λ b. (f x || g x) || b) (any_or f g xs) ∙ or_pairs (f x) (g x) (any f xs) (any g xs)

  pub any_and : (b : Bool) (f : X → Bool) (xs : List X) → any (λ x. b && f x) xs ≡ (b && any f xs)
  any_and true f xs = refl
  any_and false f xs = any_none xs

module _ {X : Type 0} (f : X → Bool) where
  any_append : (xs ys : List X) → any f (xs ++ ys) ≡ (any f xs || any f ys)
  any_append [] ys = refl
  any_append (x ∷ xs) ys =
      ap (λ b. f x || b) (any_append xs ys) ∙ sym (or_assoc (f x) (any f xs) (any f ys))

  -- the first i + 1 elements
  pub any_more : (xs : List X) (i : ℕ) (d : X) → i < length xs
      → any f (take (i + 1) xs) ≡ (any f (take i xs) || f (get_or xs i d))
  any_more xs i d h =
      ap (any f) (take_more xs i d h)
      ∙ any_append (take i xs) (get_or xs i d ∷ [])
      ∙ ap (λ b. any f (take i xs) || b) (or-false (f (get_or xs i d)))

pub any_swap : {X Y : Type 0} (r : X → Y → Bool) (xs : List X) (ys : List Y)
    → any (λ x. any (λ y. r x y) ys) xs ≡ any (λ y. any (λ x. r x y) xs) ys
any_swap r [] ys = sym (any_none ys)
any_swap r (x ∷ xs) ys =
    ap (λ b. any (λ y. r x y) ys || b) (any_swap r xs ys)
    ∙ sym (any_or (λ y. r x y) (λ y. any (λ z. r z y) xs) ys)

pub some_same : (f g : ℕ → Bool) (n : ℕ) → ((k : ℕ) → k < n → f k ≡ g k) → some f n ≡ some g n
some_same f g zero h = refl
some_same f g (suc n) h =
    ap (λ b. b || f n) (some_same f g n (λ k l. h k (omega arith))) ∙ ap (λ b. some g n || b) (h n (omega arith))

some_front : (f : ℕ → Bool) (n : ℕ) → some f (suc n) ≡ (f 0 || some (λ k. f (suc k)) n)
some_front f zero = sym (or-false (f 0))
some_front f (suc n) =
    ap (λ b. b || f (suc n)) (some_front f n) ∙ or_assoc (f 0) (some (λ k. f (suc k)) n) (f (suc n))

-- some place of a list has an element that passes
pub some_any : {X : Type 0} (t : X → Bool) (xs : List X) (d : X) → some (λ k. t (get_or xs k d)) (length xs) ≡ any t xs
some_any t [] d = refl
some_any t (x ∷ xs) d =
    some_front (λ k. t (get_or (x ∷ xs) k d)) (length xs) ∙ ap (λ b. t x || b) (some_any t xs d)
