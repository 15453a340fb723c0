-- An item that may be sent is accepted after two full circles without a loss.
use Rattle.std.proofs.Common.{◌≡◌, ℕ, ◌<◌, ◌≤◌, true, ◌⊎◌, inl, inr, arith}
use Rattle.std.proofs.lemmas.Bool.{cases_eq, cases_lt}
use Rattle.element.specs.Algebra.{Algebra, Lawful}
use Rattle.plan.specs.Links.{items}
use Rattle.protocol.specs.Frames.{brings}
use Rattle.protocol.specs.Turns.{State}
use Rattle.protocol.proofs.Plan.{Plan}
use Rattle.protocol.proofs.Rows.{SomeFrame}
use Rattle.protocol.proofs.Bits.{brings_it}
use Rattle.protocol.proofs.Link.{link_brings}
use Rattle.protocol.proofs.Gathering.{May}
use Rattle.protocol.proofs.Invariant.{Inv, counts_in_order}
use Rattle.protocol.proofs.Trips.{Window, window_turns}
use Rattle.protocol.proofs.Steps.{Step, Ends, step_inv, step_i, step_j, step_may, lane_lasts, puts_item}

module _ {M : Type 0} {A : Algebra M} (P : Plan A) (p q k : ℕ) where
  -- item k may go from p to q, and each item before it is known to have arrived
  pub record Ready (s : State M) : Type 0 where
    pub inv : Inv P s
    pub known : k ≤ s.i p q
    pub accepted : k ≤ s.j p q
    pub may : May P s.j p q k
    pub room : k < items P.shape p q

  -- and is accepted, or under way
  abbrev pub Going : State M → Type 0
  Going s = Ready s × ((k < s.j p q) ⊎ SomeFrame (λ f. brings (items P.shape p q) k f ≡ true) (s.lane p q))

  pub step_past : (t : ℕ) (s u : State M) → Step P t s u 0 → k < s.j p q → k < u.j p q
  step_past t s u st l = omega (arith, step_j P p q t s u 0 st)

module _ {M : Type 0} {A : Algebra M} (law : Lawful A) (P : Plan A) (p q k : ℕ) (pq : Ends P p q) where
  ready_lasts : (t : ℕ) (s u : State M) → Step P t s u 0 → Ready P p q k s → Ready P p q k u
  ready_lasts t s u st r = record {
    inv = step_inv law P t s u 0 st r.inv;
    known = omega (arith, step_i P p q t s u 0 st, r.known);
    accepted = omega (arith, step_j P p q t s u 0 st, r.accepted);
    may = step_may P p q k t s u 0 st r.may;
    room = r.room;
  }

  -- p's turn puts it
  pub going_now : (s u : State M) → Step P p s u 0 → Ready P p q k u → Going P p q k u
  going_now s u st r = (
    r,
    elim (cases_lt k (u.j p q)) [
      | inl l ↦ inl l
      | inr g ↦
          let o = counts_in_order P u r.inv p q pq.from_board pq.to_board pq.apart in
          let e : u.i p q ≡ k = omega (arith, r.known) in
          inr (puts_item P p q pq s u st k e r.room r.may _ (λ f b. brings_it _ k f r.room b))
    ],
  )

  going_starts : (s u : State M) → Step P p s u 0 → Ready P p q k s → Going P p q k u
  going_starts s u st r = going_now s u st (ready_lasts p s u st r)

  -- q's turn accepts it
  pub going_ends : (s u : State M) → Step P q s u 0 → Going P p q k s → k < u.j p q
  going_ends s u st (r, g) = elim g [
    | inl l ↦ step_past P p q k q s u st l
    | inr x ↦ elim (cases_eq (s.j p q) k) [
      | inr n ↦ omega (arith, step_j P p q q s u 0 st, r.accepted)
      | inl e ↦
          let h = link_brings _ _ _ _ _ _ _ (r.inv.links p q pq.from_board pq.to_board pq.apart) (rw e x) in
          omega (arith, st.1.j_own p pq.from_board pq.apart, h)
    ]
  ]

  pub going_lasts : (t : ℕ) (s u : State M) → Step P t s u 0 → Going P p q k s → Going P p q k u
  going_lasts t s u st (r, g) = (
    ready_lasts t s u st r,
    elim (cases_eq t q) [
      | inl e ↦ inl (going_ends s u (rw e at st) (r, g))
      | inr tq ↦ elim g [
        | inl l ↦ inl (step_past P p q k t s u st l)
        | inr x ↦ inr (lane_lasts P p q pq t s u 0 st tq _ x)
      ]
    ],
  )

  pub delivered : (s u : State M) → Window (Step P) P.shape.boards s u → Ready P p q k s → k < u.j p q
  delivered s u w r = window_turns (Step P) P.shape.boards s u w
      (Ready P p q k) (Going P p q k) (λ x. k < x.j p q) p q pq.from_board pq.to_board
      ready_lasts going_lasts (step_past P p q k) going_starts going_ends r
