-- A computed turn is one by the rules, and makes just its calls of the medium, whatever that appends.
use Rattle.std.proofs.Common.{◌≡◌, ℕ, zero, suc, ◌+◌, ◌<◌, ◌≤◌, Bool, true, cond, not, ◌&&◌, eqb, false, List, []}
use Rattle.std.proofs.Common.{◌∷◌, length, replicate, refl, sym, ap, ◌∙◌, subst, inl, inr, append-nil, add-one}
use Rattle.std.proofs.Common.{drop, None, arith}
use Rattle.std.proofs.lemmas.Bool.{cases_Bool, cases_eq, cond-true, eq-eqb, ne_eqb}
use Rattle.element.specs.Algebra.{Algebra}
use Rattle.medium.specs.Calls.{Rules, Call, take_call, put_call, Leads, Calls, no_call}
use Rattle.medium.specs.Lanes.{Lanes, appended, first, same_lane, shortened}
use Rattle.medium.specs.declared.frame.Frame.{Frame}
use Rattle.medium.proofs.Calling.{calls_then, call_made}
use Rattle.scene.specs.Cells.{Scene, Sound}
use Rattle.plan.specs.declared.records.Edge.{Edge}
use Rattle.forest.specs.Forest.{laid_copies, laid_edges}
use Rattle.forest.proofs.Accepted.{laid_plan_is_sound}
use Rattle.protocol.specs.Runs.{laid, seen}
use Rattle.protocol.specs.Steps.{Received, Sent, received, lanes_step, emptied, due, due_frame}
use Rattle.protocol.specs.Turns.{owes, put_frame}
use Rattle.protocol.proofs.Fitting.{links_fit}
use Rattle.protocol.proofs.Lanes.{same_lane_self}
use Rattle.protocol.proofs.Received.{Below, received_below}
use Rattle.protocol.proofs.Sending.{sent_itself}
use Rattle.protocol.proofs.TurnMade.{turn_made, same_due}
use Rattle.turns.specs.Called.{take_calls, put_calls}
use Rattle.turns.proofs.Calling.{takes_more, same_put_calls}
use Rattle.turns.proofs.Putting.{put_adds_one, no_put}
use Rattle.turns.proofs.Taking.{none_left, same_emptied}
use Rattle.circles.specs.Chains.{Snapshot, moment_at, TurnLeads}
use Rattle.readings.specs.Media.{Medium, CountedLanes, counted_lanes, computed_rules}
use Rattle.readings.specs.Runs.{after_puts, haul, after_turn}

-- ---- calls

-- what a call leads to if it is made, is led to by the call or by none
call_if : {D : Type 0} (R : Rules D) (made : Bool) (c : Call) (d e : D) → Leads R c d e
    → Calls R d (cond made (c ∷ []) []) (cond made e d)
call_if R true c d e leads = call_made leads
call_if R false c d e leads = no_call

module _ (medium : Medium) where
  abbrev R : Rules CountedLanes
  R = computed_rules medium

  -- a lane is emptied by a take for each frame in it, and one that finds none
  lane_taken : (q p : ℕ) (fs : List Frame) (x : CountedLanes) → x.lanes q p ≡ fs
      → Calls R x (replicate (length fs + 1) (take_call q p)) (counted_lanes x.puts (emptied q p x.lanes))
  lane_taken q p [] x waits =
      let gone = none_left x.lanes (shortened x.lanes q p) q p refl x.lanes None (sym (ap first waits)) refl refl in
      call_made (sym gone, refl)
  lane_taken q p (f ∷ fs) x waits =
      let rest : Lanes = shortened x.lanes q p in
      let left : rest q p ≡ fs = cond-true (same_lane q p q p) _ _ (same_lane_self q p) ∙ ap (drop 1) waits in
      let later = subst (λ l. Calls R (counted_lanes x.puts rest) (replicate (length fs + 1) (take_call q p))
      (counted_lanes x.puts l)) (same_emptied x.lanes rest q p refl)
      (lane_taken q p fs (counted_lanes x.puts rest) left) in
      rw (add-one (length (f ∷ fs)))
      (calls_then {d = x} (call_made (refl, refl)) (rw (add-one (length fs)) at later))

  module _ {M : Type 0} (A : Algebra M) (edges : List Edge) (p : ℕ) where
    lanes_taken : (r : Received M) (n k : ℕ) → Calls R (counted_lanes n r.lanes) (take_calls r.lanes p k)
        (counted_lanes n (lanes_step A edges p k r).lanes)
    lanes_taken r n zero = no_call
    lanes_taken r n (suc k) =
        let before = lanes_taken r n k in
        let so_far = lanes_step A edges p k r in
        elim (cases_eq k p) [
          | inl e ↦ rw (eq-eqb k p e, append-nil (take_calls r.lanes p k)) before
          | inr d ↦
              let after : (lanes_step A edges p (suc k) r).lanes ≡ emptied k p so_far.lanes
              = rw (ne_eqb k p d) refl in
              subst (λ l. Calls R (counted_lanes n r.lanes) (take_calls r.lanes p (suc k)) (counted_lanes n l))
              (sym after) (rw (add-one k) at (takes_more R A edges p k r so_far refl before d
              (lane_taken k p (so_far.lanes k p) (counted_lanes n so_far.lanes) refl)))
        ]

  module _ {M : Type 0} (A : Algebra M) (boards : ℕ) (edges : List Edge) (p : ℕ) (r : Received M) where
    abbrev owed : ℕ → Bool
    owed = due A boards edges p r.held.links r.got

    abbrev frame_owed : ℕ → Frame
    frame_owed = due_frame A boards edges p r.held.links r.held.copies

    -- what is due is put, by a call for each
    puts_made : (l : CountedLanes) (k : ℕ)
        → Calls R l (put_calls owed frame_owed p k) (after_puts A medium boards edges p r k l)
    puts_made l zero = no_call
    puts_made l (suc k) =
        let before = puts_made l k in
        let x = after_puts A medium boards edges p r k l in
        let count = medium x.puts x.lanes p k (frame_owed k) in
        calls_then before (call_if R (not (eqb k p) && owed k) (put_call p k (frame_owed k)) x
        (counted_lanes (x.puts + 1) (appended x.lanes p k (frame_owed k) count))
        (count, refl, (refl, refl)))

    abbrev To : ℕ → Lanes → ℕ → ℕ → Type 0
    To = Sent p owed frame_owed r.lanes

    none_sent : To 0 r.lanes 0 0
    none_sent = record {
      sent = λ q l d. absurd (omega arith);
      still = λ q l d e. refl;
      rest = λ a b h. refl;
      made_is = refl;
      lost_is = refl;
    }

    -- so many puts were made, and so many lost
    sent_below : (n k : ℕ) → (made : ℕ) × (lost : ℕ)
        × To k (after_puts A medium boards edges p r k (counted_lanes n r.lanes)).lanes made lost
    sent_below n zero = (0, 0, none_sent)
    sent_below n (suc k) =
        let (made, lost, v) = sent_below n k in
        let x = after_puts A medium boards edges p r k (counted_lanes n r.lanes) in
        let count = medium x.puts x.lanes p k (frame_owed k) in
        elim (cases_eq k p) [
          | inl e ↦
              (made, lost, rw (eq-eqb k p e) (sent_itself p owed frame_owed r.lanes k x.lanes made lost v e))
          | inr d ↦ elim (cases_Bool (owed k)) [
            | inl y ↦ (
              made + 1,
              lost + cond (eqb count 0) 1 0,
              rw (ne_eqb k p d, y)
                  (rw (add-one k) at (put_adds_one p owed frame_owed r.lanes k x.lanes made lost v d _ count y refl)),
            )
            | inr z ↦ (
              made,
              lost,
              rw (ne_eqb k p d, z)
                  (rw (add-one k) at (no_put p owed frame_owed r.lanes k x.lanes made lost v d _ z refl)),
            )
          ]
        ]

-- ---- turns

-- there are 64 links, and room for all copies of the scene's plan
abbrev pub Ready : {M : Type 0} → Scene → Snapshot M CountedLanes → Type 0
Ready s x = (length x.links ≡ 64) × (length (laid_copies s) ≤ length x.copies)

module _ {M : Type 0} (A : Algebra M) (medium : Medium) (s : Scene) (ok : Sound s) (p : ℕ) (x : Snapshot M CountedLanes)
    (pb : p < s.boards) (ready : Ready s x) where
  abbrev y : Snapshot M CountedLanes
  y = after_turn A medium s.boards (laid_edges s) p x

  abbrev begun : Received M
  begun = received x.links x.copies 0 x.medium.lanes 0 (replicate 8 false)

  abbrev r : Received M
  r = haul A s.boards (laid_edges s) p x

  below : Below A s.boards (laid_edges s) p begun s.boards r
  below = received_below A s.boards (laid_edges s) p begun ready.0 refl (omega (arith, ok.few_boards))
      (λ q l. links_fit s.boards (laid_copies s) (laid_edges s) (laid_plan_is_sound s ok) (length x.copies) ready.1 q p)
      s.boards ok.few_boards

  pub stays_ready : Ready s y
  stays_ready = (below.long, omega (arith, below.as_many, ready.1))

  pub turn_leads : TurnLeads A (computed_rules medium) (laid A s) p x y
  turn_leads =
      let (made, lost, v) = sent_below medium A s.boards (laid_edges s) p r x.medium.puts s.boards in
      let u = seen A (moment_at (computed_rules medium) x) in
      let w = seen A (moment_at (computed_rules medium) y) in
      let between = counted_lanes x.medium.puts r.lanes in
      let as_due : put_calls (owed medium A s.boards (laid_edges s) p r) (put_frame A (laid A s) u w p) p s.boards
      ≡ put_calls (owes A (laid A s) u w p) (put_frame A (laid A s) u w p) p s.boards
      = same_put_calls _ _ (put_frame A (laid A s) u w p) p s.boards
      (same_due A s.boards (laid_edges s) p pb x.tally y.tally x.links x.copies x.medium.lanes y.medium.lanes
      (replicate 8 false) r below made lost v) in
      record {
        turn = record {
          below = pb;
          turned = turn_made A s.boards (laid_edges s) p pb x.tally y.tally x.links x.copies x.medium.lanes
              y.medium.lanes (replicate 8 false) r below made lost v;
          same_length = below.as_many;
          counted = refl;
        };
        calls = calls_then
            (lanes_taken medium A (laid_edges s) p begun x.medium.puts s.boards)
            (subst (λ cs. Calls (computed_rules medium) between cs y.medium) as_due
            (puts_made medium A s.boards (laid_edges s) p r between s.boards));
      }
