-- One turn: its counts, what it puts, and which copies it writes.
use Rattle.std.proofs.Common.{◌≡◌, ℕ, ◌<◌, ◌≤◌, true, ltb, ◌≢◌, ◌⊎◌, ap, ◌∙◌, inl, inr, arith}
use Rattle.std.proofs.lemmas.Bool.{cases_eq, eq-eqb, cases_lt, lt-ltb, ltb-true, and_parts, and_from, or_cases}
use Rattle.std.proofs.lemmas.Bool.{or_left, or_right}
use Rattle.element.specs.Algebra.{Algebra}
use Rattle.plan.specs.Links.{Shape, items}
use Rattle.protocol.specs.Frames.{brings, tells_of}
use Rattle.protocol.specs.Turns.{State, Turned, copies_after_all, wants, owes, left, lost}
use Rattle.protocol.proofs.Plan.{Plan}
use Rattle.protocol.proofs.Rows.{count_after_grows}
use Rattle.protocol.proofs.Elsewhere.{not_written}
use Rattle.protocol.proofs.Gathering.{May, gathered_is, is_gathered, sum_others_zero}

module _ {M : Type 0} (A : Algebra M) (S : Shape) (s u : State M) (p : ℕ) (t : Turned A S s u p) where
  j_way : (a b : ℕ) → (u.j a b ≡ s.j a b) ⊎ ((b ≡ p) × (a ≢ p) × (a < S.boards))
  j_way a b = elim (cases_eq b p) [
    | inr d ↦ inl (t.j_rest a b (inl d))
    | inl e ↦ elim (cases_eq a p) [
      | inl x ↦ inl (t.j_rest a b (inr (inl x)))
      | inr x ↦ elim (cases_lt a S.boards) [ inl y ↦ inr (e, x, y) | inr y ↦ inl (t.j_rest a b (inr (inr y))) ]
    ]
  ]

  i_way : (a b : ℕ) → (u.i a b ≡ s.i a b) ⊎ ((a ≡ p) × (b ≢ p) × (b < S.boards))
  i_way a b = elim (cases_eq a p) [
    | inr d ↦ inl (t.i_rest a b (inl d))
    | inl e ↦ elim (cases_eq b p) [
      | inl x ↦ inl (t.i_rest a b (inr (inl x)))
      | inr x ↦ elim (cases_lt b S.boards) [ inl y ↦ inr (e, x, y) | inr y ↦ inl (t.i_rest a b (inr (inr y))) ]
    ]
  ]

  -- no count falls
  pub j_grows : (a b : ℕ) → s.j a b ≤ u.j a b
  j_grows a b = elim (j_way a b) [
    | inl e ↦ omega arith
    | inr (e, x, y) ↦ rw (e, t.j_own a y x) (count_after_grows (brings (items S a p)) (s.j a p) (s.lane a p))
  ]

  pub i_grows : (a b : ℕ) → s.i a b ≤ u.i a b
  i_grows a b = elim (i_way a b) [
    | inl e ↦ omega arith
    | inr (e, x, y) ↦ rw (e, t.i_own b y x) (count_after_grows (tells_of (items S p b)) (s.i p b) (s.lane b p))
  ]

module _ {M : Type 0} {A : Algebra M} (P : Plan A) (s u : State M) (p : ℕ) where
  abbrev S : Shape
  S = P.shape

  pub wants_says : (q : ℕ) → wants A S s u p q ≡ true → (u.i p q < items S p q) × May P u.j p q (u.i p q)
  wants_says q h =
      let (a, b) = and_parts (ltb (u.i p q) (items S p q)) _ h in (
        ltb-true _ _ a,
        elim (or_cases (ltb (u.i p q) (S.up p q)) _ b) [
          | inl x ↦ inl (ltb-true _ _ x)
          | inr x ↦ inr (gathered_is P u.j p x)
        ],
      )

  pub says_wants : (q : ℕ) → u.i p q < items S p q → May P u.j p q (u.i p q) → wants A S s u p q ≡ true
  says_wants q l m = and_from _ _ (lt-ltb _ _ l) (elim m [
    | inl x ↦ or_left _ _ (lt-ltb _ _ x)
    | inr g ↦ or_right _ _ (is_gathered P u.j p g)
  ])

  -- where no put was lost, each left a frame
  pub lost_none : lost A S s u p ≡ 0 → (q : ℕ) → q < S.boards → q ≢ p → owes A S s u p q ≡ true → 0 < left A S s u p q
  lost_none h q l d m = elim (cases_eq (left A S s u p q) 0) [
    | inr z ↦ omega arith
    | inl z ↦
        let h' = rw (m, eq-eqb (left A S s u p q) 0 z) at (sum_others_zero p S.boards _ h q l d) in
        absurd (omega arith)
  ]

  -- accepted items are written to the board's own copies alone
  pub copies_after_all_else : (k : ℕ) (c : ℕ) → P.board c ≢ p → copies_after_all A S p k s.j s.lane s.val c ≡ s.val c
  copies_after_all_else k c d =
      not_written A S p c
      (λ q m l e. d (ap P.board e ∙ P.root_board q p m l))
      (λ q m l e. d (ap P.board e ∙ P.leaf_board p q m l))
      k s.j s.lane s.val

  -- what may be sent may still be sent after the turn
  pub may_lasts : Turned A S s u p → (a b k : ℕ) → May P s.j a b k → May P u.j a b k
  may_lasts t a b k m = elim m [
    | inl l ↦ inl l
    | inr g ↦ inr (λ q l d. omega (arith, g q l d, j_grows A S s u p t q a))
  ]
