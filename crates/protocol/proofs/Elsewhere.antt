-- Which copies a turn leaves alone: those that no item of it names, and all where no frame waits.
use Rattle.std.proofs.Common.{◌≡◌, ℕ, zero, suc, ◌-◌, ◌<◌, true, ◌≢◌, List, [], ◌∷◌, length, get_or, refl, ap, ◌∙◌}
use Rattle.std.proofs.Common.{inl, inr, arith}
use Rattle.std.proofs.lemmas.List.{ext_get_or}
use Rattle.std.proofs.lemmas.Bool.{cases_eq, eq-eqb, ne_eqb, cases_lt, cases_Bool, lt-ltb, le-ltb}
use Rattle.element.specs.Algebra.{Algebra}
use Rattle.element.specs.declared.words.Words.{Words}
use Rattle.medium.specs.Lanes.{Lanes}
use Rattle.medium.specs.declared.frame.Frame.{Frame}
use Rattle.plan.specs.Links.{Shape, shape, items, no_copy}
use Rattle.plan.specs.Sound.{sound_plan}
use Rattle.plan.specs.declared.records.CopyRecord.{CopyRecord}
use Rattle.plan.specs.declared.records.Edge.{Edge}
use Rattle.plan.proofs.Plans.{between_at}
use Rattle.protocol.specs.Frames.{brings, words_of}
use Rattle.protocol.specs.Turns.{Turned, accept, copies_after, copies_after_all}
use Rattle.protocol.specs.Runs.{Moment, seen}
use Rattle.protocol.proofs.Bits.{brings_below}

module _ {M : Type 0} (A : Algebra M) (S : Shape) (p c : ℕ)
    (no_root : (q m : ℕ) → m < S.up q p → c ≢ S.root q p m)
    (no_leaf : (q m : ℕ) → m < S.up p q → c ≢ S.leaf p q m) where
  accept_else : (q m : ℕ) (w : Words) (val : ℕ → M) → m < items S q p → accept A S p q m w val c ≡ val c
  accept_else q m w val l = elim (cases_lt m (S.up q p)) [
    | inl a ↦ rw (lt-ltb m (S.up q p) a, ne_eqb c (S.root q p m) (no_root q m a))
    | inr a ↦
        let m₀ = m - S.up q p in
        rw (le-ltb m (S.up q p) a, ne_eqb c (S.leaf p q m₀) (no_leaf q m₀ (omega arith)))
  ]

  copies_after_else : (q j : ℕ) (val : ℕ → M) (fs : List Frame) → copies_after A S p q j val fs c ≡ val c
  copies_after_else q j val [] = refl
  copies_after_else q j val (f ∷ fs) = elim (cases_Bool (brings (items S q p) j f)) [
    | inl e ↦ rw e (copies_after_else q (suc j) _ fs
        ∙ accept_else q j (words_of f.item) val (brings_below (items S q p) j f e))
    | inr e ↦ rw e (copies_after_else q j val fs)
  ]

  -- a copy that no edge of board p names on p's side is not written
  pub not_written : (k : ℕ) (j : ℕ → ℕ → ℕ) (lane : Lanes) (val : ℕ → M) → copies_after_all A S p k j lane val c ≡ val c
  not_written zero j lane val = refl
  not_written (suc k) j lane val = elim (cases_eq k p) [
    | inl e ↦ rw (eq-eqb k p e) (not_written k j lane val)
    | inr n ↦ rw (ne_eqb k p n) (copies_after_else k (j k p) _ (lane k p) ∙ not_written k j lane val)
  ]

-- where no frame waits for p, nothing is written
nothing_taken : {M : Type 0} (A : Algebra M) (S : Shape) (p k : ℕ) (j : ℕ → ℕ → ℕ) (lane : Lanes) (val : ℕ → M)
    → ((q : ℕ) → q < k → q ≢ p → lane q p ≡ []) → copies_after_all A S p k j lane val ≡ val
nothing_taken A S p zero j lane val none = refl
nothing_taken A S p (suc k) j lane val none =
    let before = nothing_taken A S p k j lane val (λ q l d. none q (omega arith) d) in
    elim (cases_eq k p) [
      | inl e ↦ rw (eq-eqb k p e) before
      | inr d ↦ rw (ne_eqb k p d, none k (omega arith) d) before
    ]

module _ {M : Type 0} (A : Algebra M) (boards : ℕ) (records : List CopyRecord) (edges : List Edge)
    (sound : sound_plan boards records edges ≡ true) (p : ℕ) (m m' : Moment M)
    (t : Turned A (shape boards edges) (seen A m) (seen A m') p) where
  -- copies of other boards, and what stands past the plan's copies, stay as they were
  pub other_copies_stay : (c : ℕ) → (c < length records → (get_or records c no_copy).board ≡ p → ⊥)
      → get_or m'.copies c A.zero ≡ get_or m.copies c A.zero
  other_copies_stay c other =
      ap (λ val. val c) t.val_is
      ∙ not_written A (shape boards edges) p c
      (λ q k l e.
      let edge = between_at boards records edges sound q p k l in
      other (rw e edge.root_below) (ap (λ n. (get_or records n no_copy).board) e ∙ edge.root_board))
      (λ q k l e.
      let edge = between_at boards records edges sound p q k l in
      other (rw e edge.leaf_below) (ap (λ n. (get_or records n no_copy).board) e ∙ edge.leaf_board))
      boards (seen A m).j m.lanes (seen A m).val

  -- copies are written by frames that wait alone
  pub copies_stay_without_frames : length m'.copies ≡ length m.copies
      → ((q : ℕ) → q < boards → q ≢ p → m.lanes q p ≡ []) → m'.copies ≡ m.copies
  copies_stay_without_frames same none =
      let still = nothing_taken A (shape boards edges) p boards (seen A m).j m.lanes (seen A m).val none in
      ext_get_or A.zero m'.copies m.copies same (λ c l. ap (λ val. val c) (t.val_is ∙ still))
