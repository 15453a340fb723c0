-- Accepted turns as steps of a trip: what each keeps, what it lets wait, and what it puts if nothing is lost.
use Rattle.std.proofs.Common.{◌≡◌, ℕ, ◌<◌, ◌≤◌, true, ◌≢◌, List, sym, refl, ap, inl, inr}
use Rattle.std.proofs.lemmas.Bool.{cases_eq, or_left, or_right}
use Rattle.element.specs.Algebra.{Algebra, Lawful}
use Rattle.medium.specs.declared.frame.Frame.{Frame}
use Rattle.plan.specs.Links.{items}
use Rattle.protocol.specs.Frames.{odd, has_bit, some_item}
use Rattle.protocol.specs.Turns.{State, Turned, wants, owes, put_frame, lost}
use Rattle.protocol.proofs.Plan.{Plan}
use Rattle.protocol.proofs.Rows.{SomeFrame, some_frame_left, some_frame_right, some_frame_replicate}
use Rattle.protocol.proofs.Bits.{beq_same}
use Rattle.protocol.proofs.Gathering.{May}
use Rattle.protocol.proofs.Invariant.{Inv}
use Rattle.protocol.proofs.Turning.{says_wants, lost_none, j_grows, i_grows, may_lasts}
use Rattle.protocol.proofs.Kept.{turn_keeps}
use Rattle.protocol.proofs.Trips.{Trip, trip_keeps}

module _ {M : Type 0} {A : Algebra M} (P : Plan A) where
  -- an accepted turn of p, in which l puts are lost
  abbrev pub Step : ℕ → State M → State M → ℕ → Type 0
  Step p s u l = (p < P.shape.boards) × Turned A P.shape s u p × (l ≡ lost A P.shape s u p)

  -- a link between two boards
  pub record Ends (p q : ℕ) : Type 0 where
    pub from_board : p < P.shape.boards
    pub to_board : q < P.shape.boards
    pub apart : p ≢ q

  pub back : (p q : ℕ) → Ends p q → Ends q p
  back p q l = record { from_board = l.to_board; to_board = l.from_board; apart = λ e. l.apart (sym e) }

  pub step_i : (a b t : ℕ) (s u : State M) (l : ℕ) → Step t s u l → s.i a b ≤ u.i a b
  step_i a b t s u l (tb, w, z) = i_grows A P.shape s u t w a b

  pub step_j : (a b t : ℕ) (s u : State M) (l : ℕ) → Step t s u l → s.j a b ≤ u.j a b
  step_j a b t s u l (tb, w, z) = j_grows A P.shape s u t w a b

  pub step_may : (a b k t : ℕ) (s u : State M) (l : ℕ) → Step t s u l → May P s.j a b k → May P u.j a b k
  step_may a b k t s u l (tb, w, z) m = may_lasts P s u t w a b k m

  -- what waits from a to b still waits, unless it is b's turn
  pub lane_lasts : (a b : ℕ) → Ends a b → (t : ℕ) (s u : State M) (l : ℕ) → Step t s u l → t ≢ b
      → (Q : Frame → Type 0) → SomeFrame Q (s.lane a b) → SomeFrame Q (u.lane a b)
  lane_lasts a b ab t s u l (tb, w, z) n Q x = elim (cases_eq t a) [
    | inl e ↦ rw ((rw e at w).sent b ab.to_board (λ y. ab.apart (sym y))) (some_frame_left Q (s.lane a b) _ x)
    | inr d ↦ rw (w.lane_rest a b (inl ((λ e. d (sym e)), (λ e. n (sym e))))) x
  ]

  module _ (p q : ℕ) (pq : Ends p q) (s u : State M) (st : Step p s u 0) where
    -- a put that p makes to q leaves a frame
    puts_frame : owes A P.shape s u p q ≡ true
        → (Q : Frame → Type 0) → Q (put_frame A P.shape s u p q) → SomeFrame Q (u.lane p q)
    puts_frame h Q x =
        let qp : q ≢ p = λ e. pq.apart (sym e) in
        let some = lost_none P s u p (sym st.2) q pq.to_board qp h in
        rw (st.1.sent q pq.to_board qp) (some_frame_right Q (s.lane p q) _ (some_frame_replicate Q _ _ some x))

    -- p, which may send item k and has no word of it, puts it
    pub puts_item : (k : ℕ) → u.i p q ≡ k → k < items P.shape p q → May P u.j p q k
        → (Q : Frame → Type 0) → ((f : Frame) → has_bit k f.item ≡ true → Q f) → SomeFrame Q (u.lane p q)
    puts_item k e room m Q h =
        let w : wants A P.shape s u p q ≡ true = says_wants P s u p q (rw e room) (rw e m) in
        puts_frame (or_left _ _ w) Q (h _ (rw w (beq_same _ _ (ap odd e))))

    -- p, which took an item of q, replies
    pub puts_reply : some_item (s.lane q p) ≡ true
        → (Q : Frame → Type 0) → ((f : Frame) → f.reply ≡ odd (u.j q p) → Q f) → SomeFrame Q (u.lane p q)
    puts_reply h Q r = puts_frame (or_right _ _ h) Q (r _ refl)

module _ {M : Type 0} {A : Algebra M} (law : Lawful A) (P : Plan A) where
  pub step_inv : (t : ℕ) (s u : State M) (l : ℕ) → Step P t s u l → Inv P s → Inv P u
  step_inv t s u l (tb, w, z) h = turn_keeps law P s u t w tb h

  pub trip_inv : (ts : List ℕ) (s u : State M) (l : ℕ) → Trip (Step P) ts s u l → Inv P s → Inv P u
  trip_inv = trip_keeps (Step P) (Inv P) step_inv
