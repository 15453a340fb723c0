-- Taking the oldest frame of a lane, again and again, until none waits.
use Rattle.std.proofs.Common.{◌≡◌, ℕ, Bool, true, false, cond, ◌||◌, eqb, List, [], ◌∷◌, drop, is_some, Some, None}
use Rattle.std.proofs.Common.{Option, refl, ap, ◌∙◌, sym}
use Rattle.std.proofs.Math.Path.{fun_ext}
use Rattle.std.proofs.lemmas.Bool.{and_parts, cond-true, eqb-true}
use Rattle.medium.specs.declared.frame.Frame.{Frame}
use Rattle.medium.specs.declared.frame.Item.{Item}
use Rattle.medium.specs.Lanes.{Lanes, first, same_lane, shortened}
use Rattle.protocol.specs.Frames.{present, some_item}
use Rattle.protocol.specs.Steps.{emptied}
use Rattle.protocol.proofs.Lanes.{same_lane_self}

first_and_rest : (fs : List Frame) (f : Frame) → Some f ≡ first fs → fs ≡ f ∷ drop 1 fs
first_and_rest [] f e = cc
first_and_rest (g ∷ gs) f e = cc

empty_from_first : (fs : List Frame) → None ≡ first fs → fs ≡ []
empty_from_first [] e = refl
empty_from_first (g ∷ gs) e = cc

-- an item among the frames so far, in the next one, or in the rest
pub item_so_far : (a : Bool) (f : Frame) (fs : List Frame)
    → ((a || is_some f.item) || some_item fs) ≡ (a || some_item (f ∷ fs))
item_so_far true f fs = refl
item_so_far false f fs = go f.item
  where
    go : (o : Option Item) → (is_some o || some_item fs) ≡ (present o || some_item fs)
    go None = refl
    go (Some x) = refl

module _ (lanes lanes' : Lanes) (q p : ℕ) (after : lanes' ≡ shortened lanes q p) where
  -- the frame that was taken, and what is left behind it
  pub one_taken : (f : Frame) → Some f ≡ first (lanes q p) → lanes q p ≡ f ∷ lanes' q p
  one_taken f e =
      first_and_rest (lanes q p) f e
      ∙ ap (λ r. f ∷ r) (sym (ap (λ l. l q p) after ∙ cond-true (same_lane q p q p) _ _ (same_lane_self q p)))

  pub same_emptied : emptied q p lanes' ≡ emptied q p lanes
  same_emptied = ap (emptied q p) after ∙ fun_ext (λ a. fun_ext (λ b. go (same_lane q p a b) (lanes a b)))
    where
      go : (t : Bool) (fs : List Frame) → cond t [] (cond t (drop 1 fs) fs) ≡ cond t [] fs
      go true fs = refl
      go false fs = refl

  -- where none waited, the lane is as good as emptied
  pub none_left : (was : Lanes) (found : Option Frame) → found ≡ first (lanes q p) → found ≡ None
      → emptied q p lanes ≡ emptied q p was → lanes' ≡ emptied q p was
  none_left was found value none so_far =
      after ∙ fun_ext (λ a. fun_ext (λ b. at a b (same_lane q p a b) refl)) ∙ so_far
    where
      at : (a b : ℕ) (t : Bool) → same_lane q p a b ≡ t
          → cond t (drop 1 (lanes a b)) (lanes a b) ≡ cond t [] (lanes a b)
      at a b true h =
          let both = and_parts (eqb a q) (eqb b p) h in
          ap (drop 1) (ap (λ x. lanes x b) (eqb-true a q both.0) ∙ ap (lanes q) (eqb-true b p both.1)
          ∙ empty_from_first (lanes q p) (sym none ∙ value))
      at a b false h = refl
