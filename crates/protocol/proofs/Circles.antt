-- The items of all links as a measure, and how many full circles settle every board.
use Rattle.std.proofs.Common.{◌≡◌, ℕ, ◌+◌, ◌*◌, ◌<◌, ◌≤◌, cond, eqb, ◌≢◌, ◌⊎◌, List, ◌++◌, length, sym, ◌∙◌, inl, inr}
use Rattle.std.proofs.Common.{arith}
use Rattle.std.specs.List.{AllByRecursion}
use Rattle.std.proofs.lemmas.Bool.{cases_eq, eq-eqb, ne_eqb, cases_lt, cases_Bool}
use Rattle.element.specs.Algebra.{Algebra, Lawful}
use Rattle.plan.specs.Links.{items}
use Rattle.protocol.specs.Turns.{State}
use Rattle.protocol.specs.Books.{lacks, HasAll}
use Rattle.protocol.specs.Promise.{Full, flat}
use Rattle.protocol.proofs.Plan.{Plan}
use Rattle.protocol.proofs.Pairs.{pairs, over_links, pairs_add, pairs_swap, pairs_le, pairs_lt, pairs_same, all_or_one}
use Rattle.protocol.proofs.Invariant.{Inv, FreshState, fresh_keeps}
use Rattle.protocol.proofs.Trips.{Trip, Window, window_keeps}
use Rattle.protocol.proofs.Count.{enough}
use Rattle.protocol.proofs.Steps.{Step, Ends, step_inv, step_j}
use Rattle.protocol.proofs.Replies.{Good, good_after_window}
use Rattle.protocol.proofs.Progress.{some_link_sendable, window_accepts_an_item}

module _ {M : Type 0} {A : Algebra M} (P : Plan A) where
  -- how many edges the plan has
  abbrev pub edges : ℕ
  edges = pairs P.shape.boards P.shape.up

  -- how many items were accepted, and how many are lacking
  abbrev pub accepted : State M → ℕ
  accepted s = over_links P.shape.boards s.j

  abbrev pub lacking : State M → ℕ
  lacking s = pairs P.shape.boards (λ a b. lacks P.shape s.j b a)

  abbrev pub AllSettled : State M → Type 0
  AllSettled s = (p : ℕ) → p < P.shape.boards → HasAll P.shape s.j p

  -- each edge is an item of two links
  pub items_counted : pairs P.shape.boards (items P.shape) ≡ 2 * edges
  items_counted =
      let e₁ = pairs_add P.shape.boards P.shape.up (λ a b. P.shape.up b a) in
      let e₂ = pairs_swap P.shape.boards P.shape.up in
      omega arith

  no_items_to_self : (a b : ℕ) → a ≡ b → items P.shape a b ≡ 0
  no_items_to_self a b e = rw e (omega (arith, P.no_self b))

  pub accepted_plus_lacking : (s : State M) → Inv P s → accepted s + lacking s ≡ 2 * edges
  accepted_plus_lacking s v =
      sym (pairs_add P.shape.boards _ _) ∙ pairs_same P.shape.boards _ _ each ∙ items_counted
    where
      each : (a b : ℕ) → a < P.shape.boards → b < P.shape.boards
          → cond (eqb a b) 0 (s.j a b) + lacks P.shape s.j b a ≡ items P.shape a b
      each a b la lb = elim (cases_eq a b) [
        | inl e ↦ rw (eq-eqb a b e) (omega (arith, no_items_to_self a b e))
        | inr d ↦ rw (ne_eqb a b d) (omega (arith, (v.links a b la lb d).le))
      ]

  link_le : (s u : State M) (a b : ℕ) → s.j a b ≤ u.j a b → cond (eqb a b) 0 (s.j a b) ≤ cond (eqb a b) 0 (u.j a b)
  link_le s u a b y = elim (cases_Bool (eqb a b)) [ inl e ↦ rw e (omega arith) | inr e ↦ rw e y ]

  pub accepted_grows : (t : ℕ) (s u : State M) (l : ℕ) → Step P t s u l → accepted s ≤ accepted u
  accepted_grows t s u l st = pairs_le P.shape.boards _ _ (λ a b la lb. link_le s u a b (step_j P a b t s u l st))

  accepted_more : (s u : State M) → ((a b : ℕ) → s.j a b ≤ u.j a b)
      → (p q : ℕ) → Ends P p q → s.j p q < u.j p q → accepted s < accepted u
  accepted_more s u h p q pq l = pairs_lt P.shape.boards _ _ (λ a b la lb. link_le s u a b (h a b))
      p q pq.from_board pq.to_board (rw (ne_eqb p q pq.apart) l)

  -- every board is settled, or a link lacks an item
  pub settled_or_lacking : (s : State M)
      → AllSettled s ⊎ ((p : ℕ) × (q : ℕ) × Ends P p q × (s.j p q < items P.shape p q))
  settled_or_lacking s = elim (all_or_one P.shape.boards _ _ board) [
    | inl all ↦ inl all
    | inr (p, pb, (q, qb, l)) ↦
        let d : q ≢ p = λ e. omega (arith, no_items_to_self q p e) in
        inr (q, p, record { from_board = qb; to_board = pb; apart = d }, l)
  ]
    where
      link : (p q : ℕ) → (items P.shape q p ≤ s.j q p) ⊎ (s.j q p < items P.shape q p)
      link p q = elim (cases_lt (s.j q p) (items P.shape q p)) [ inl l ↦ inr l | inr g ↦ inl g ]

      board : (p : ℕ) → HasAll P.shape s.j p
          ⊎ ((q : ℕ) × (q < P.shape.boards) × (s.j q p < items P.shape q p))
      board p = all_or_one P.shape.boards _ _ (link p)

  room : (s : State M) → Inv P s → (accepted s < 2 * edges) ⊎ AllSettled s
  room s v = elim (settled_or_lacking s) [
    | inl z ↦ inr z
    | inr (p, q, pq, l) ↦ inl (rw (← items_counted) (pairs_lt P.shape.boards _ _ below
        p q pq.from_board pq.to_board (rw (ne_eqb p q pq.apart) l)))
  ]
    where
      below : (a b : ℕ) → a < P.shape.boards → b < P.shape.boards
          → cond (eqb a b) 0 (s.j a b) ≤ items P.shape a b
      below a b la lb = elim (cases_eq a b) [
        | inl e ↦ rw (eq-eqb a b e) (omega arith)
        | inr d ↦ rw (ne_eqb a b d) (v.links a b la lb d).le
      ]

  settled_lasts : (t : ℕ) (s u : State M) (l : ℕ) → Step P t s u l → Inv P s → AllSettled s → AllSettled u
  settled_lasts t s u l st v z p pb q qb = omega (arith, z p pb q qb, step_j P q p t s u l st)

  fresh_good : (s : State M) → FreshState P s → Good P s
  unfolding Good
  fresh_good s f p q pq e = absurd (omega (arith, f.i_zero p q, f.j_zero p q))

module _ {M : Type 0} {A : Algebra M} (law : Lawful A) (P : Plan A) where
  window_works : (s u : State M) → Window (Step P) P.shape.boards s u → Inv P s → Good P s
      → (accepted P s < accepted P u) ⊎ AllSettled P u
  window_works s u w v g = elim (settled_or_lacking P u) [
    | inl z ↦ inr z
    | inr (a, b, ab, l) ↦
        let (p, q, pq, more) = window_accepts_an_item P law s u w v g
        (some_link_sendable P s a b ab (omega (arith, grows a b))) in
        inl (accepted_more P s u grows p q pq more)
  ]
    where
      grows : (a b : ℕ) → s.j a b ≤ u.j a b
      grows a b = window_keeps (Step P) P.shape.boards s u w (λ x. s.j a b ≤ x.j a b)
          (λ t x y k st le. omega (arith, step_j P a b t x y k st)) (omega arith)

  -- 4 full circles an edge, and 4 more for each loss, settle every board
  pub four_circles_an_edge_settle_all : (cs : List (List ℕ)) (rest : List ℕ) → AllByRecursion (Full P.shape.boards) cs
      → (s u : State M) (l : ℕ) → Trip (Step P) (flat cs ++ rest) s u l → FreshState P s
      → 4 * edges P + 4 * l ≤ length cs → AllSettled P u
  four_circles_an_edge_settle_all cs rest full s u l h f le =
      enough (Step P) P.shape.boards (Inv P) (Good P) (AllSettled P) (accepted P)
      (step_inv law P) (λ t s u l st _. accepted_grows P t s u l st) (settled_lasts P)
      (good_after_window law P) window_works
      (2 * edges P) (room P) cs rest full s u l h (fresh_keeps law P s f) (fresh_good P s f) (omega arith)
