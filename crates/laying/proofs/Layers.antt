-- Rows that are filled place by place, and one layer more.
use Rattle.std.proofs.Common.{◌≡◌, ℕ, suc, ◌+◌, ◌<◌, Bool, ◌&&◌, eqb, List, length, get_or, set, ap, ◌∙◌}
use Rattle.std.proofs.Common.{inl, inr, arith}
use Rattle.std.specs.List.{AllByRecursion}
use Rattle.std.proofs.lemmas.List.{get_or-set_same, get_or-set_other}
use Rattle.std.proofs.lemmas.Bool.{cases_eq}
use Rattle.std.proofs.lemmas.Bool.Decides.{nat_tests}
use Rattle.scene.specs.Cells.{Cell}
use Rattle.scene.specs.Read.{no_cell}
use Rattle.forest.specs.Forest.{any, is_corner, touch, overlaps}
use Rattle.laying.specs.Seen.{cell_numbered}
use Rattle.laying.specs.Reached.{is_reached}
use Rattle.laying.specs.Rows.{some}
use Rattle.laying.specs.Tables.{row}
use Rattle.laying.proofs.Anys.{any_same, any_same_all, any_and, any_swap, some_same, some_any}

-- a row that is filled place by place
pub filled_more : {X : Type 0} (P : ℕ → X → Type 0) (xs : List X) (i : ℕ) (x d : X) → i < length xs
    → ((k : ℕ) → k < i → P k (get_or xs k d))
    → P i x
    → (k : ℕ) → k < i + 1 → P k (get_or (set xs i x) k d)
filled_more P xs i x d h below here k l =
    elim (cases_eq k i) [
      | inl e ↦
          let Q : ℕ → Type 0 = λ j. P j (get_or (set xs i x) j d) in
          rw e (rw (get_or-set_same xs i x d h) here)
      | inr n ↦
          let lower : k < i = omega arith in
          rw (get_or-set_other xs i k x d n) (below k lower)
    ]

eqb_sym : (a b : ℕ) → eqb a b ≡ eqb b a
eqb_sym a b = grind (arith, nat_tests)

-- to share a vertex, either way round
touch_sym : (c d : Cell) → any (λ x. is_corner x d) c.corners ≡ touch c d
touch_sym c d =
    any_swap (λ x y. eqb y x) c.corners d.corners
    ∙ any_same
    (λ y. any (λ x. eqb y x) c.corners)
    (λ y. is_corner y c)
    (λ y. any_same (λ x. eqb y x) (λ x. eqb x y) (λ x. eqb_sym y x) c.corners)
    d.corners

-- a vertex around m + 1 layers is one of a cell that has a vertex around m
module _ (cs : List Cell) (p m : ℕ) (near : ℕ → Bool) (is : (v : ℕ) → v < 1024 → near v ≡ is_reached cs p m v) where
  next_layer : (c : Cell) → AllByRecursion (λ v. v < 1024) c.corners
      → any near c.corners ≡ overlaps cs p (suc m) c
  next_layer c low =
      let t = overlaps cs p m in
      any_same_all (λ v. v < 1024) near (is_reached cs p m) is c.corners low
      ∙ any_swap (λ x d. t d && is_corner x d) c.corners cs
      ∙ any_same
      (λ d. any (λ x. t d && is_corner x d) c.corners)
      (λ d. t d && touch c d)
      (λ d. any_and (t d) (λ x. is_corner x d) c.corners ∙ ap (λ b. t d && b) (touch_sym c d))
      cs

  pub reached_next : (corners : List (List ℕ)) → length corners ≡ length cs
      → ((c : ℕ) → c < length cs → row corners c ≡ (cell_numbered cs c).corners)
      → ((c : ℕ) → c < length cs → AllByRecursion (λ v. v < 1024) (cell_numbered cs c).corners)
      → (v : ℕ)
      → some (λ c. any near (row corners c) && any (λ x. eqb x v) (row corners c)) (length corners)
      ≡ is_reached cs p (suc m) v
  reached_next corners all each low v =
      ap (some (λ c. any near (row corners c) && any (λ x. eqb x v) (row corners c))) all
      ∙ some_same
      (λ c. any near (row corners c) && any (λ x. eqb x v) (row corners c))
      (λ c. overlaps cs p (suc m) (cell_numbered cs c) && is_corner v (cell_numbered cs c))
      (length cs)
      (λ c l.
      ap (λ xs. any near xs && any (λ x. eqb x v) xs) (each c l)
      ∙ ap (λ b. b && is_corner v (cell_numbered cs c)) (next_layer (cell_numbered cs c) (low c l)))
      ∙ some_any (λ d. overlaps cs p (suc m) d && is_corner v d) cs no_cell

-- a vertex is one of a board if it is on a cell of the board
pub owned_is : (cs : List Cell) (p v : ℕ) (corners : List (List ℕ)) → length corners ≡ length cs
    → ((c : ℕ) → c < length cs → row corners c ≡ (cell_numbered cs c).corners)
    → some (λ c. eqb (cell_numbered cs c).board p && any (λ x. eqb x v) (row corners c)) (length corners)
    ≡ is_reached cs p 0 v
owned_is cs p v corners all each =
    ap (some (λ c. eqb (cell_numbered cs c).board p && any (λ x. eqb x v) (row corners c))) all
    ∙ some_same
    (λ c. eqb (cell_numbered cs c).board p && any (λ x. eqb x v) (row corners c))
    (λ c. eqb (cell_numbered cs c).board p && is_corner v (cell_numbered cs c))
    (length cs)
    (λ c l. ap (λ xs. eqb (cell_numbered cs c).board p && any (λ x. eqb x v) xs) (each c l))
    ∙ some_any (λ d. eqb d.board p && is_corner v d) cs no_cell
