-- What the copies of one board hold, by the items that it has accepted.
use Rattle.std.proofs.Common.{◌≡◌, ℕ, suc, ◌+◌, ◌-◌, ◌<◌, true, cond, ◌&&◌, eqb, ltb, ◌≢◌, sym, ap, ◌∙◌, ap₂, inl}
use Rattle.std.proofs.Common.{inr, arith}
use Rattle.std.proofs.lemmas.Bool.{cases_eq, eq-eqb, ne_eqb, cases_lt, lt-ltb, le-ltb}
use Rattle.std.proofs.lemmas.Bool.Decides.{nat_tests}
use Rattle.element.specs.Algebra.{Algebra, Lawful}
use Rattle.element.specs.Join.{join_below}
use Rattle.element.proofs.Joins.{join_below_bump}
use Rattle.element.specs.declared.words.Words.{Words}
use Rattle.plan.specs.Links.{Shape, items}
use Rattle.protocol.specs.Turns.{accept}
use Rattle.protocol.proofs.Plan.{Plan, part}

pub ltb_skip : (x c : ℕ) → x ≢ c → ltb x c ≡ ltb x (suc c)
ltb_skip x c d = grind (arith, nat_tests)

module _ {M : Type 0} {A : Algebra M} (P : Plan A) where
  -- what the first k items of q bring to the copy c of p
  abbrev pub share : ℕ → ℕ → ℕ → ℕ → M
  share q p c k = part A P.shape P.own q p c k

  -- what item m from q to p says: the leaf's own sum, or the root's total
  abbrev pub content : ℕ → ℕ → ℕ → M
  content q p m = cond (ltb m (P.shape.up q p))
      (P.own (P.shape.leaf q p m))
      (P.total (P.shape.root p q (m - P.shape.up q p)))

  -- board p has accepted j q items of each q: a leaf is its own sum until its item is accepted, and then the total;
  -- a root is its own sum joined with all that was brought to it
  pub record Copies (p : ℕ) (j : ℕ → ℕ) (val : ℕ → M) : Type 0 where
    pub leaves : (q m : ℕ) → m < P.shape.up p q
        → val (P.shape.leaf p q m)
        ≡ cond (ltb (P.shape.up q p + m) (j q)) (P.total (P.shape.leaf p q m)) (P.own (P.shape.leaf p q m))
    pub roots : (c : ℕ) → P.is_root c ≡ true → P.board c ≡ p
        → val c ≡ A.join (P.own c) (join_below A P.shape.boards (λ q. share q p c (j q)))

-- p accepts the next item of q
module _ {M : Type 0} {A : Algebra M} (law : Lawful A) (P : Plan A)
    (p : ℕ) (j j' : ℕ → ℕ) (val : ℕ → M) (v : Copies P p j val) (q : ℕ) (w : Words)
    (below : q < P.shape.boards) (room : j q < items P.shape q p) (holds : A.unpack w ≡ content P q p (j q))
    (more : j' q ≡ suc (j q)) (rest : (r : ℕ) → r ≢ q → j' r ≡ j r) where
  abbrev S : Shape
  S = P.shape

  abbrev after : ℕ → M
  after = accept A S p q (j q) w val

  join_more : (c : ℕ) → join_below A S.boards (λ r. share P r p c (j' r))
      ≡ A.join (join_below A S.boards (λ r. share P r p c (j r)))
      (cond (ltb (j q) (S.up q p) && eqb (S.root q p (j q)) c) (P.own (S.leaf q p (j q))) A.zero)
  join_more c = join_below_bump A law S.boards (λ r. share P r p c (j r)) (λ r. share P r p c (j' r)) q _ below
      (rw more) (λ r d. rw (rest r d))

  accept_roots : (c : ℕ) → P.is_root c ≡ true → P.board c ≡ p
      → after c ≡ A.join (P.own c) (join_below A S.boards (λ r. share P r p c (j' r)))
  accept_roots c is on = rw (join_more c) (elim (cases_lt (j q) (S.up q p)) [
    | inl lt ↦
        let t = lt-ltb (j q) (S.up q p) lt in
        let hw : A.unpack w ≡ P.own (S.leaf q p (j q)) = rw t at holds in
        rw t (elim (cases_eq c (S.root q p (j q))) [
          | inl e ↦
              rw (eq-eqb c _ e, eq-eqb (S.root q p (j q)) c (sym e), ← e, v.roots c is on, hw)
              (law.join_assoc _ _ _)
          | inr d ↦
              rw (ne_eqb c _ d, ne_eqb (S.root q p (j q)) c (λ e. d (sym e)), law.join_zero _)
              (v.roots c is on)
        ])
    | inr ge ↦
        let m₀ = j q - S.up q p in
        let other = P.leaves_are_no_roots p q m₀ c (omega arith) is in
        rw (le-ltb (j q) (S.up q p) ge, ne_eqb c (S.leaf p q m₀) other, law.join_zero _) (v.roots c is on)
  ])

  -- the test of a leaf's item, unless it is the very item accepted
  same_test : (r m : ℕ) → (r ≡ q → S.up r p + m ≢ j q) → ltb (S.up r p + m) (j r) ≡ ltb (S.up r p + m) (j' r)
  same_test r m h = elim (cases_eq r q) [
    | inl e ↦ rw (ap j e, ap j' e ∙ more) (ltb_skip _ (j q) (h e))
    | inr d ↦ rw (rest r d)
  ]

  accept_leaves : (r m : ℕ) → m < S.up p r
      → after (S.leaf p r m) ≡ cond (ltb (S.up r p + m) (j' r)) (P.total (S.leaf p r m)) (P.own (S.leaf p r m))
  accept_leaves r m l = elim (cases_lt (j q) (S.up q p)) [
    | inl lt ↦
        let is = P.roots_are_roots q p (j q) lt in
        let other = P.leaves_are_no_roots p r m (S.root q p (j q)) l is in
        rw (
          lt-ltb (j q) (S.up q p) lt,
          ne_eqb (S.leaf p r m) (S.root q p (j q)) (λ e. other (sym e)),
          ← (same_test r m (λ e x. omega (arith, ap (λ z. S.up z p) e))),
        ) (v.leaves r m l)
    | inr ge ↦
        let m₀ = j q - S.up q p in
        rw (le-ltb (j q) (S.up q p) ge) (elim (cases_eq (S.leaf p r m) (S.leaf p q m₀)) [
          | inl e ↦
              let (er, em) = P.leaf_once p r q m m₀ l (omega arith) e in
              let hw : A.unpack w ≡ P.total (S.root p q m₀) = rw (le-ltb (j q) (S.up q p) ge) at holds in
              let past : S.up r p + m < j' r = omega (arith, ap (λ z. S.up z p) er, ap j' er) in
              rw (eq-eqb _ _ e, lt-ltb (S.up r p + m) (j' r) past)
              (hw ∙ sym (P.total_along_edge p q m₀ (omega arith)) ∙ ap P.total (sym e))
          | inr d ↦
              let other : r ≡ q → S.up r p + m ≢ j q = λ e x.
              d (ap₂ (S.leaf p) e (omega (arith, ap (λ z. S.up z p) e))) in
              rw (ne_eqb _ _ d, ← (same_test r m other)) (v.leaves r m l)
        ])
  ]

  pub accept_keeps : Copies P p j' after
  accept_keeps = record { leaves = accept_leaves; roots = accept_roots }
