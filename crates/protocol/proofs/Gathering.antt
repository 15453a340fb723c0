-- Boards that have gathered: what the rule's test says, and that their roots hold the totals.
use Rattle.std.proofs.Common.{◌≡◌, ℕ, zero, suc, ◌<◌, ◌≤◌, Bool, true, false, cond, ◌&&◌, eqb, ◌≢◌, ◌⊎◌, sym, refl}
use Rattle.std.proofs.Common.{ap, ◌∙◌, inl, inr, arith}
use Rattle.std.proofs.lemmas.Bool.{cases_eq, eq-eqb, ne_eqb, le-ltb, le-leb, leb-true, leb-false, eqb-true, eqb-false}
use Rattle.std.proofs.lemmas.Bool.{and_parts, and_from, and_cases, or_cases, or_parts, or_left, or_right, false≢true}
use Rattle.element.specs.Algebra.{Algebra, Lawful}
use Rattle.element.proofs.Joins.{join_below_same}
use Rattle.protocol.specs.Turns.{all_others, sum_others, has_gathered}
use Rattle.protocol.proofs.Plan.{Plan}
use Rattle.protocol.proofs.Copies.{Copies, share}

pub all_others_each : (p k : ℕ) (t : ℕ → Bool) → all_others p k t ≡ true → (q : ℕ) → q < k → q ≢ p → t q ≡ true
all_others_each p zero t h q l d = absurd (omega arith)
all_others_each p (suc k) t h q l d =
    let (a, b) = and_parts (all_others p k t) _ h in
    elim (cases_eq q k) [
      | inl e ↦ elim (or_cases (eqb k p) (t k) b) [ inl x ↦ absurd (d (e ∙ eqb-true k p x)) | inr x ↦ rw e x ]
      | inr n ↦ all_others_each p k t a q (omega arith) d
    ]

pub all_others_from : (p k : ℕ) (t : ℕ → Bool) → ((q : ℕ) → q < k → q ≢ p → t q ≡ true) → all_others p k t ≡ true
all_others_from p zero t h = refl
all_others_from p (suc k) t h = and_from _ _ (all_others_from p k t (λ q l d. h q (omega arith) d))
    (elim (cases_eq k p) [ inl e ↦ or_left _ _ (eq-eqb k p e) | inr d ↦ or_right _ _ (h k (omega arith) d) ])

pub all_others_fail : (p k : ℕ) (t : ℕ → Bool) → all_others p k t ≡ false → (q : ℕ) × (q < k) × (q ≢ p) × (t q ≡ false)
all_others_fail p zero t h = absurd (false≢true (sym h))
all_others_fail p (suc k) t h = elim (and_cases (all_others p k t) _ h) [
  | inl x ↦ let (q, l, d, e) = all_others_fail p k t x in (q, omega arith, d, e)
  | inr x ↦ let (a, b) = or_parts (eqb k p) (t k) x in (k, omega arith, (λ e. eqb-false k p a e), b)
]

-- where a sum over the other boards is zero, so is each summand
pub sum_others_zero : (p k : ℕ) (f : ℕ → ℕ) → sum_others p k f ≡ 0 → (q : ℕ) → q < k → q ≢ p → f q ≡ 0
sum_others_zero p zero f h q l d = absurd (omega arith)
sum_others_zero p (suc k) f h q l d = elim (cases_eq q k) [
  | inl e ↦ let h' = rw (ne_eqb k p (λ x. d (e ∙ x))) at h in rw e (omega arith)
  | inr n ↦ sum_others_zero p k f (omega arith) q (omega arith) d
]

module _ {M : Type 0} {A : Algebra M} (P : Plan A) where
  -- by the counts j, board p has accepted all that rises to it
  abbrev pub Gathered : (ℕ → ℕ → ℕ) → ℕ → Type 0
  Gathered j p = (q : ℕ) → q < P.shape.boards → q ≢ p → P.shape.up q p ≤ j q p

  -- and item k may go from p to q: it rises, or p has gathered
  abbrev pub May : (ℕ → ℕ → ℕ) → ℕ → ℕ → ℕ → Type 0
  May j p q k = (k < P.shape.up p q) ⊎ Gathered j p

  pub gathered_is : (j : ℕ → ℕ → ℕ) (p : ℕ) → has_gathered A P.shape j p ≡ true → Gathered j p
  gathered_is j p h q l d = leb-true _ _ (all_others_each p P.shape.boards _ h q l d)

  pub is_gathered : (j : ℕ → ℕ → ℕ) (p : ℕ) → Gathered j p → has_gathered A P.shape j p ≡ true
  is_gathered j p h = all_others_from p P.shape.boards _ (λ q l d. le-leb _ _ (h q l d))

  pub not_gathered : (j : ℕ → ℕ → ℕ) (p : ℕ) → has_gathered A P.shape j p ≡ false
      → (q : ℕ) × (q < P.shape.boards) × (q ≢ p) × (j q p < P.shape.up q p)
  not_gathered j p h =
      let (q, l, d, e) = all_others_fail p P.shape.boards _ h in
      (q, l, d, leb-false _ _ e)

module _ {M : Type 0} {A : Algebra M} (law : Lawful A) (P : Plan A) where
  -- items past those that rise bring nothing to a root
  share_full : (q p c k : ℕ) → P.shape.up q p ≤ k → share P q p c k ≡ share P q p c (P.shape.up q p)
  share_full q p c zero h = let e : 0 ≡ P.shape.up q p = omega arith in ap (share P q p c) e
  share_full q p c (suc k) h = elim (cases_eq (suc k) (P.shape.up q p)) [
    | inl e ↦ ap (share P q p c) e
    | inr d ↦
        let past = le-ltb k (P.shape.up q p) (omega arith) in
        ap (λ b. A.join (share P q p c k)
        (cond (b && eqb (P.shape.root q p k) c) (P.own (P.shape.leaf q p k)) A.zero)) past
        ∙ law.join_zero (share P q p c k)
        ∙ share_full q p c k (omega arith)
  ]

  -- a gathered board's roots hold the totals
  pub root_total : (p : ℕ) (j : ℕ → ℕ → ℕ) (val : ℕ → M) → Copies P p (λ q. j q p) val → Gathered P j p
      → (c : ℕ) → P.is_root c ≡ true → P.board c ≡ p → val c ≡ P.total c
  root_total p j val v g c is on =
      v.roots c is on
      ∙ ap (A.join (P.own c)) (join_below_same A P.shape.boards _ _ (λ q l. share_full q p c (j q p) (full q l)))
      ∙ sym (rw on at (P.total_at_root c is))
    where
      full : (q : ℕ) → q < P.shape.boards → P.shape.up q p ≤ j q p
      full q l = elim (cases_eq q p) [ inl e ↦ rw e (omega (arith, P.no_self p)) | inr d ↦ g q l d ]
