-- What copies hold at every moment: settled boards the totals, leaves their own sums or the totals.
use Rattle.std.proofs.Common.{◌≡◌, ℕ, ◌+◌, ◌<◌, true, ltb, ◌⊎◌, ◌∙◌, inl, inr, arith}
use Rattle.std.proofs.lemmas.Bool.{cases_Bool, lt-ltb}
use Rattle.element.specs.Algebra.{Algebra, Lawful}
use Rattle.protocol.specs.Turns.{State}
use Rattle.protocol.specs.Books.{HasAll}
use Rattle.protocol.proofs.Plan.{Plan}
use Rattle.protocol.proofs.Gathering.{Gathered, root_total}
use Rattle.protocol.proofs.Invariant.{Inv}

module _ {M : Type 0} {A : Algebra M} (law : Lawful A) (P : Plan A) (s : State M) (v : Inv P s) (p : ℕ)
    (pb : p < P.shape.boards) where
  pub gathered_roots_hold_totals : Gathered P s.j p
      → (c : ℕ) → P.is_root c ≡ true → P.board c ≡ p → s.val c ≡ P.total c
  gathered_roots_hold_totals g = root_total law P p s.j s.val (v.copies p pb) g

  pub settled_boards_hold_totals : HasAll P.shape s.j p
      → (c : ℕ) → P.valid c ≡ true → P.board c ≡ p → s.val c ≡ P.total c
  settled_boards_hold_totals z c ok on = elim (P.root_or_leaf c ok) [
    | inl is ↦ gathered_roots_hold_totals (λ q qb d. omega (arith, z q qb)) c is on
    | inr (q, m, qb, k, e) ↦
        let e' : P.shape.leaf p q m ≡ c = rw on at e in
        let k' : m < P.shape.up p q = rw on at k in
        let past = lt-ltb (P.shape.up q p + m) (s.j q p) (omega (arith, z q qb)) in
        rw (← e') ((v.copies p pb).leaves q m k' ∙ rw past)
  ]

  pub leaves_hold_own_sum_or_total : (q m : ℕ) → m < P.shape.up p q
      → (s.val (P.shape.leaf p q m) ≡ P.own (P.shape.leaf p q m))
      ⊎ (s.val (P.shape.leaf p q m) ≡ P.total (P.shape.leaf p q m))
  leaves_hold_own_sum_or_total q m k = elim (cases_Bool (ltb (P.shape.up q p + m) (s.j q p))) [
    | inl e ↦ inr ((v.copies p pb).leaves q m k ∙ rw e)
    | inr e ↦ inl ((v.copies p pb).leaves q m k ∙ rw e)
  ]
