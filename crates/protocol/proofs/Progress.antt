-- While a board is unsettled, two full circles without a loss get an item accepted.
use Rattle.std.proofs.Common.{◌≡◌, ℕ, suc, ◌<◌, inl, inr, arith}
use Rattle.std.proofs.lemmas.Bool.{cases_eq, cases_Bool}
use Rattle.element.specs.Algebra.{Algebra, Lawful}
use Rattle.plan.specs.Links.{items}
use Rattle.protocol.specs.Turns.{State, has_gathered}
use Rattle.protocol.proofs.Plan.{Plan}
use Rattle.protocol.proofs.Gathering.{May, gathered_is, not_gathered}
use Rattle.protocol.proofs.Invariant.{Inv, counts_in_order}
use Rattle.protocol.proofs.Trips.{Window, window_turns}
use Rattle.protocol.proofs.Steps.{Step, Ends, step_may}
use Rattle.protocol.proofs.Delivery.{Ready, Going, step_past, going_now, going_lasts, going_ends, delivered}
use Rattle.protocol.proofs.Replies.{Taken, Told, Good, taken_lasts, told_lasts, told_ends}

-- item k is told, and the item after it may be sent
module _ {M : Type 0} {A : Algebra M} (law : Lawful A) (P : Plan A) (p q k : ℕ) (pq : Ends P p q) where
  abbrev Next : State M → Type 0
  Next s = Told P p q k s × May P s.j p q (suc k) × (suc k < items P.shape p q)

  next_lasts : (t : ℕ) (s u : State M) → Step P t s u 0 → Next s → Next u
  next_lasts t s u st (g, m, l) = (told_lasts law P p q k pq t s u st g, step_may P p q (suc k) t s u 0 st m, l)

  -- p hears it and puts the next item in the same turn
  next_sent : (s u : State M) → Step P p s u 0 → Next s → Going P p q (suc k) u
  next_sent s u st (g, m, l) =
      let r : Taken P p q k u = taken_lasts law P p q k pq p s u st g.0 in
      let ready : Ready P p q (suc k) u = record {
        inv = r.inv;
        known = told_ends law P p q k pq s u st g;
        accepted = r.accepted;
        may = step_may P p q (suc k) p s u 0 st m;
        room = l;
      } in
      going_now law P p q (suc k) pq s u st ready

  next_delivered : (s u : State M) → Window (Step P) P.shape.boards s u → Next s → suc k < u.j p q
  next_delivered s u w h = window_turns (Step P) P.shape.boards s u w
      Next (Going P p q (suc k)) (λ x. suc k < x.j p q) p q pq.from_board pq.to_board
      next_lasts (going_lasts law P p q (suc k) pq) (step_past P p q (suc k))
      next_sent (going_ends law P p q (suc k) pq) h

module _ {M : Type 0} {A : Algebra M} (P : Plan A) where
  -- the item that some link is to accept next may be sent
  abbrev pub Sendable : State M → Type 0
  Sendable s = (p : ℕ) × (q : ℕ) × Ends P p q × (s.j p q < items P.shape p q) × May P s.j p q (s.j p q)

  -- no deadlock: where a link lacks an item, some link can go on
  pub some_link_sendable : (s : State M) (a b : ℕ) → Ends P a b → s.j a b < items P.shape a b → Sendable s
  some_link_sendable s a b ab l = elim (cases_Bool (has_gathered A P.shape s.j a)) [
    | inl g ↦ (a, b, ab, l, inr (gathered_is P s.j a g))
    | inr g ↦
        let (r, lr, ra, k) = not_gathered P s.j a g in
        (r, a, record { from_board = lr; to_board = ab.from_board; apart = ra }, omega arith, inl k)
  ]

  pub window_accepts_an_item : (law : Lawful A) (s u : State M) → Window (Step P) P.shape.boards s u
      → Inv P s → Good P s → Sendable s → (p : ℕ) × (q : ℕ) × Ends P p q × (s.j p q < u.j p q)
  unfolding Good
  window_accepts_an_item law s u w v g (p, q, pq, room, may) =
      let o = counts_in_order P s v p q pq.from_board pq.to_board pq.apart in (
        p,
        q,
        pq,
        elim (cases_eq (s.j p q) (s.i p q)) [
          | inl e ↦
              let r : Ready P p q (s.j p q) s = record {
                inv = v;
                known = omega arith;
                accepted = omega arith;
                may = may;
                room = room;
              } in
              delivered law P p q (s.j p q) pq s u w r
          | inr n ↦
              let k = s.i p q in
              let e : s.j p q ≡ suc k = omega arith in
              let r : Taken P p q k s = record { inv = v; known = omega arith; accepted = omega arith } in
              let h : suc k < u.j p q =
              next_delivered law P p q k pq s u w ((r, inr (g p q pq e)), (rw e at may), omega arith) in
              omega arith
        ],
      )
