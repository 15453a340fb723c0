-- The lists of the elements of a list, joined.
use Rattle.std.proofs.Common.{◌≡◌, ℕ, zero, suc, ◌+◌, ◌<◌, ◌≤◌, Bool, true, false, ◌&&◌, List, [], ◌++◌, length}
use Rattle.std.proofs.Common.{get_or, take, sym, refl, ap, ◌∙◌, arith}
use Rattle.std.specs.List.{flat_map}
use Rattle.std.proofs.Math.Bool.{and-true, and-false}
use Rattle.std.proofs.lemmas.Grind.{flat_map-append}
use Rattle.std.proofs.lemmas.List.{append-nil, take_more, flat_map_more}
use Rattle.std.proofs.lemmas.List.Folds.{length-flat_map-take}
use Rattle.laying.specs.Rows.{lists_below, only}

module _ {X Y : Type 0} where
  -- the lists of all that was gathered
  pub joined_all : (f : X → List Y) (g : ℕ → List X) (n : ℕ)
      → flat_map f (lists_below g n) ≡ lists_below (λ k. flat_map f (g k)) n
  joined_all f g zero = refl
  joined_all f g (suc n) =
      flat_map-append f (lists_below g n) (g n) ∙ ap (λ l. l ++ flat_map f (g n)) (joined_all f g n)

  -- what one test lets through, and then the other
  pub joined_only : (t : X → Bool) (f : X → Y) (b : Bool) (x : X)
      → flat_map (λ z. only (t z) (f z)) (only b x) ≡ only (t x && b) (f x)
  joined_only t f true x = append-nil (only (t x) (f x)) ∙ ap (λ b. only b (f x)) (sym (and-true (t x)))
  joined_only t f false x = ap (λ b. only b (f x)) (sym (and-false (t x)))

  -- the list of the element at place i follows
  module _ (f : X → List Y) (xs : List X) (i : ℕ) (x : X) (h : i < length xs) (is : x ≡ get_or xs i x) where
    pub joined_more : flat_map f (take (i + 1) xs) ≡ flat_map f (take i xs) ++ f x
    joined_more =
        ap (flat_map f) (take_more xs i x h)
        ∙ sym (flat_map_more f [] (take i xs) (get_or xs i x))
        ∙ ap (λ y. flat_map f (take i xs) ++ f y) (sym is)

    pub joined_room : length (flat_map f (take i xs)) + length (f x) ≤ length (flat_map f xs)
    joined_room = omega (arith, length-flat_map-take f xs i x h, ap (λ y. length (f y)) is)
