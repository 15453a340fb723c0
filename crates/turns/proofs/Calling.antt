-- What one frame more, and one board more, add to the calls so far.
use Rattle.std.proofs.Common.{◌≡◌, ℕ, zero, suc, ◌+◌, ◌<◌, ◌≤◌, Bool, true, false, cond, ◌≢◌, refl}
use Rattle.std.proofs.Common.{ap, ◌∙◌, add-one, inl, inr, arith, List, [], ◌∷◌, length, replicate, Some, None}
use Rattle.std.proofs.lemmas.Bool.{cases_eq, eq-eqb, ne_eqb}
use Rattle.std.proofs.lemmas.List.{append-nil, replicate_more}
use Rattle.element.specs.Algebra.{Algebra}
use Rattle.medium.specs.Calls.{Rules, Call, take_call, put_call, Leads, Calls, no_call, one_call}
use Rattle.medium.specs.Lanes.{Lanes}
use Rattle.medium.specs.declared.frame.Frame.{Frame}
use Rattle.medium.proofs.Calling.{calls_then, call_made}
use Rattle.plan.specs.declared.records.Edge.{Edge}
use Rattle.protocol.specs.Steps.{Received, lanes_step}
use Rattle.turns.specs.Called.{take_calls, put_calls}

-- while the boards below k are served, the lanes from the others stay
lanes_ahead : {M : Type 0} (A : Algebra M) (edges : List Edge) (p : ℕ) (r : Received M) (k q : ℕ) → k ≤ q
    → (lanes_step A edges p k r).lanes q p ≡ r.lanes q p
lanes_ahead A edges p r zero q l = refl
lanes_ahead A edges p r (suc k) q l =
    let before = lanes_ahead A edges p r k q (omega arith) in
    elim (cases_eq k p) [
      | inl e ↦ rw (eq-eqb k p e) before
      | inr d ↦ rw (ne_eqb k p d, ne_eqb q k (λ e. omega arith)) before
    ]

module _ {D : Type 0} (R : Rules D) where
  -- one call more of the same
  pub one_call_more : (k n : ℕ) (c : Call) {d e f : D} → Calls R d (replicate k c) e → Leads R c e f → n ≡ k + 1
      → Calls R d (replicate n c) f
  one_call_more k n c {d = d} {e = e} {f = f} before leads more =
      rw (more, ← replicate_more k c) (one_call (replicate k c) c e f before leads)

  -- and none of it so far
  pub no_call_yet : (n : ℕ) (c : Call) {d : D} → n ≡ 0 → Calls R d (replicate n c) d
  no_call_yet n c none = rw none no_call

  -- a board takes nothing from itself
  pub no_take_from_itself : (lanes : Lanes) (p q : ℕ) {d e : D} → Calls R d (take_calls lanes p q) e → q ≡ p
      → Calls R d (take_calls lanes p (q + 1)) e
  no_take_from_itself lanes p q before same = rw (add-one q, eq-eqb q p same, append-nil (take_calls lanes p q)) before

  -- the takes from one board more, as its lane is once the boards below it are served
  pub takes_more : {M : Type 0} (A : Algebra M) (edges : List Edge) (p q : ℕ) (r r' : Received M) {d e f : D}
      → r' ≡ lanes_step A edges p q r → Calls R d (take_calls r.lanes p q) e → q ≢ p
      → Calls R e (replicate (length (r'.lanes q p) + 1) (take_call q p)) f → Calls R d (take_calls r.lanes p (q + 1)) f
  takes_more {M = M} A edges p q r r' so_far before apart later =
      let same = ap (λ (x : Received M). x.lanes q p) so_far ∙ lanes_ahead A edges p r q q (omega arith) in
      rw (add-one q, ne_eqb q p apart) (calls_then before (rw same at later))

  -- a frame that was due was put, and where none was due no call was made
  pub put_if_due : (due : Bool) (from to : ℕ) (f g : Frame) {d e : D} → Some g ≡ cond due (Some f) None
      → Leads R (put_call from to g) d e → Calls R d (cond due (put_call from to f ∷ []) []) e
  put_if_due true from to f g is leads =
      let same : g ≡ f = cc in
      rw (← same) (call_made leads)
  put_if_due false from to f g is leads = cc

  pub no_put_if_none : (due : Bool) (from to : ℕ) (f : Frame) {d : D} → None ≡ cond due (Some f) None
      → Calls R d (cond due (put_call from to f ∷ []) []) d
  no_put_if_none true from to f is = cc
  no_put_if_none false from to f is = no_call

  module _ (due : ℕ → Bool) (frame : ℕ → Frame) (p q : ℕ) {d e : D} (before : Calls R d (put_calls due frame p q) e)
    where
      -- nothing is due to a board from itself
      pub no_put_to_itself : q ≡ p → Calls R d (put_calls due frame p (q + 1)) e
      no_put_to_itself same = rw (add-one q, eq-eqb q p same, append-nil (put_calls due frame p q)) before

      -- the put to one board more, if one is due
      pub puts_more : {f : D} → q ≢ p → Calls R e (cond (due q) (put_call p q (frame q) ∷ []) []) f
          → Calls R d (put_calls due frame p (q + 1)) f
      puts_more apart later = rw (add-one q, ne_eqb q p apart) (calls_then before later)

-- it is enough that the same is due to the other boards
pub same_put_calls : (due due' : ℕ → Bool) (frame : ℕ → Frame) (p k : ℕ)
    → ((q : ℕ) → q < k → q ≢ p → due q ≡ due' q) → put_calls due frame p k ≡ put_calls due' frame p k
same_put_calls due due' frame p zero same = refl
same_put_calls due due' frame p (suc k) same =
    let before = same_put_calls due due' frame p k (λ q l. same q (omega arith)) in
    elim (cases_eq k p) [
      | inl e ↦ rw (eq-eqb k p e, before) refl
      | inr d ↦ rw (ne_eqb k p d, before, same k (omega arith) d) refl
    ]
