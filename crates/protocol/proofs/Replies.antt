-- After two full circles without a loss, each acceptance that its sender does not know of is being told.
use Rattle.std.proofs.Common.{◌≡◌, ℕ, suc, ◌+◌, ◌<◌, ◌≤◌, true, ◌⊎◌, sym, ap, ◌∙◌, inl, inr, arith}
use Rattle.std.proofs.lemmas.Bool.{cases_eq, cases_lt}
use Rattle.element.specs.Algebra.{Algebra, Lawful}
use Rattle.plan.specs.Links.{items}
use Rattle.protocol.specs.Frames.{brings, odd, present}
use Rattle.protocol.specs.Turns.{State}
use Rattle.protocol.proofs.Plan.{Plan}
use Rattle.protocol.proofs.Rows.{SomeFrame, count_after_grew}
use Rattle.protocol.proofs.Bits.{bit_present, brings_item, some_item_from}
use Rattle.protocol.proofs.Link.{link_hears}
use Rattle.protocol.proofs.Invariant.{Inv, LinkOf, counts_in_order}
use Rattle.protocol.proofs.Trips.{Window, window_turns, window_stays}
use Rattle.protocol.proofs.Steps.{Step, Ends, back, step_inv, step_i, step_j, lane_lasts, puts_item, puts_reply}

module _ {M : Type 0} {A : Algebra M} (P : Plan A) (p q k : ℕ) where
  -- item k from p is accepted by q; p may not know
  pub record Taken (s : State M) : Type 0 where
    pub inv : Inv P s
    pub known : k ≤ s.i p q
    pub accepted : k < s.j p q

  -- and p knows, or a frame waits that tells
  abbrev pub Told : State M → Type 0
  Told s = Taken s × ((k < s.i p q) ⊎ SomeFrame (λ f. f.reply ≡ odd (suc k)) (s.lane q p))

  -- or else an item of p waits, to which q will reply
  abbrev Asked : State M → Type 0
  Asked s = Taken s × (Told s ⊎ SomeFrame (λ f. present f.item ≡ true) (s.lane p q))

  -- item k is not accepted, or it is told
  abbrev Fair : State M → Type 0
  Fair s = Inv P s × ((s.j p q ≤ k) ⊎ Told s)

module _ {M : Type 0} {A : Algebra M} (law : Lawful A) (P : Plan A) (p q k : ℕ) (pq : Ends P p q) where
  link_of : (s : State M) → Inv P s → LinkOf P s p q
  link_of s v = v.links p q pq.from_board pq.to_board pq.apart

  orders : (s : State M) → Inv P s
      → (s.i p q ≤ s.j p q) × (s.j p q ≤ s.i p q + 1) × (s.j p q ≤ items P.shape p q)
  orders s v = counts_in_order P s v p q pq.from_board pq.to_board pq.apart

  pub taken_lasts : (t : ℕ) (s u : State M) → Step P t s u 0 → Taken P p q k s → Taken P p q k u
  taken_lasts t s u st r = record {
    inv = step_inv law P t s u 0 st r.inv;
    known = omega (arith, step_i P p q t s u 0 st, r.known);
    accepted = omega (arith, step_j P p q t s u 0 st, r.accepted);
  }

  -- p's turn hears it
  pub told_ends : (s u : State M) → Step P p s u 0 → Told P p q k s → k < u.i p q
  told_ends s u st (r, g) = elim g [
    | inl l ↦ omega (arith, step_i P p q p s u 0 st)
    | inr x ↦
        let o = orders s r.inv in
        elim (cases_eq (s.i p q) k) [
          | inr n ↦ omega (arith, step_i P p q p s u 0 st, r.known)
          | inl e ↦
              let ji : s.j p q ≡ suc (s.i p q) = omega (arith, r.accepted) in
              let h = link_hears _ _ _ _ _ _ _ (link_of s r.inv) ji (rw e x) in
              omega (arith, st.1.i_own q pq.to_board (λ y. pq.apart (sym y)), h)
        ]
  ]

  pub told_lasts : (t : ℕ) (s u : State M) → Step P t s u 0 → Told P p q k s → Told P p q k u
  told_lasts t s u st (r, g) = (
    taken_lasts t s u st r,
    elim (cases_eq t p) [
      | inl e ↦ inl (told_ends s u (rw e at st) (r, g))
      | inr tp ↦ elim g [
        | inl l ↦ inl (omega (arith, step_i P p q t s u 0 st))
        | inr x ↦ inr (lane_lasts P q p (back P p q pq) t s u 0 st tp _ x)
      ]
    ],
  )

  -- q's turn, with an item of p taken, tells
  tells : (s u : State M) → Step P q s u 0 → Taken P p q k u → SomeFrame (λ f. present f.item ≡ true) (s.lane p q)
      → Told P p q k u
  tells s u st r x = (
    r,
    elim (cases_lt k (u.i p q)) [
      | inl l ↦ inl l
      | inr g ↦
          let o = orders u r.inv in
          let e : u.j p q ≡ suc k = omega (arith, r.accepted) in
          inr (puts_reply P q p (back P p q pq) s u st (some_item_from _ x) _ (λ f h. h ∙ ap odd e))
    ],
  )

  -- p's turn asks again, unless it knows
  asked_starts : (s u : State M) → Step P p s u 0 → Taken P p q k s → Asked P p q k u
  asked_starts s u st r =
      let r' : Taken P p q k u = taken_lasts p s u st r in
      let v = link_of u r'.inv in (
        r',
        elim (cases_lt k (u.i p q)) [
          | inl l ↦ inl (r', inl l)
          | inr g ↦
              let e : u.i p q ≡ k = omega (arith, r'.known) in
              let room : k < items P.shape p q = omega (arith, v.le, r'.accepted) in
              inr (puts_item P p q pq s u st k e room (v.asked k r'.accepted) _ (λ f b. bit_present k f.item b))
        ],
      )

  asked_ends : (s u : State M) → Step P q s u 0 → Asked P p q k s → Told P p q k u
  asked_ends s u st (r, a) = elim a [
    | inl g ↦ told_lasts q s u st g
    | inr x ↦ tells s u st (taken_lasts q s u st r) x
  ]

  asked_lasts : (t : ℕ) (s u : State M) → Step P t s u 0 → Asked P p q k s → Asked P p q k u
  asked_lasts t s u st (r, a) = (
    taken_lasts t s u st r,
    elim (cases_eq t q) [
      | inl e ↦ inl (asked_ends s u (rw e at st) (r, a))
      | inr tq ↦ elim a [
        | inl g ↦ inl (told_lasts t s u st g)
        | inr x ↦ inr (lane_lasts P p q pq t s u 0 st tq _ x)
      ]
    ],
  )

  -- whoever accepts item k without a loss tells
  grew : (s u : State M) → Step P q s u 0 → Inv P u → s.j p q ≤ k → k < u.j p q → Told P p q k u
  grew s u st v l g =
      let o = orders u v in
      let more = st.1.j_own p pq.from_board pq.apart in
      let r : Taken P p q k u = record { inv = v; known = omega arith; accepted = g } in
      let n = items P.shape p q in
      tells s u st r (count_after_grew (brings n) _ (brings_item n) (s.j p q) (s.lane p q) (omega arith))

  fair_lasts : (t : ℕ) (s u : State M) → Step P t s u 0 → Fair P p q k s → Fair P p q k u
  fair_lasts t s u st (v, f) =
      let v' : Inv P u = step_inv law P t s u 0 st v in (
        v',
        elim f [
          | inr g ↦ inr (told_lasts t s u st g)
          | inl l ↦ elim (cases_lt k (u.j p q)) [
            | inr g ↦ inl g
            | inl g ↦ elim (cases_eq t q) [
              | inl e ↦ inr (grew s u (rw e at st) v' l g)
              | inr n ↦ absurd (omega (arith, st.1.j_rest p q (inl (λ e. n (sym e)))))
            ]
          ]
        ],
      )

  replied : (s u : State M) → Window (Step P) P.shape.boards s u → Inv P s → k < u.j p q → Told P p q k u
  replied s u w v lu = elim (cases_lt k (s.j p q)) [
    | inl l ↦
        let o = orders s v in
        let r : Taken P p q k s = record { inv = v; known = omega arith; accepted = l } in
        window_turns (Step P) P.shape.boards s u w
        (Taken P p q k) (Asked P p q k) (Told P p q k) p q pq.from_board pq.to_board
        taken_lasts asked_lasts told_lasts asked_starts asked_ends r
    | inr g ↦ elim (window_stays (Step P) P.shape.boards s u w (Fair P p q k) fair_lasts (v, inl g)).1 [
      | inl x ↦ absurd (omega arith)
      | inr x ↦ x
    ]
  ]

-- each acceptance that its sender does not know of is being told
unfoldable pub Good : {M : Type 0} {A : Algebra M} → Plan A → State M → Type 0
Good P s = (p q : ℕ) → Ends P p q → s.j p q ≡ suc (s.i p q)
    → SomeFrame (λ f. f.reply ≡ odd (suc (s.i p q))) (s.lane q p)

pub good_after_window : {M : Type 0} {A : Algebra M} (law : Lawful A) (P : Plan A) (s u : State M)
    → Window (Step P) P.shape.boards s u → Inv P s → Good P u
unfolding Good
good_after_window law P s u w v p q pq e =
    elim (replied law P p q (u.i p q) pq s u w v (omega arith)).1 [ inl x ↦ absurd (omega arith) | inr x ↦ x ]
