-- Whole ascending circles lose no put over a medium that fills empty lanes: each put meets an empty lane.
use Rattle.std.proofs.Common.{◌≡◌, ℕ, zero, suc, ◌+◌, ◌<◌, ◌≤◌, Bool, true, false, not, ◌&&◌, ◌≢◌, eqb, List, [], ◌∷◌}
use Rattle.std.proofs.Common.{◌++◌, ◌⊎◌, Some, length, replicate, sym, refl, ap, ◌∙◌, inl, inr, arith}
use Rattle.std.specs.List.{All, Contains}
use Rattle.std.proofs.lemmas.Bool.{cases_Bool, cases_eq, cond-true, cond-false, eq-eqb, ne_eqb, eqb-true, both_ways}
use Rattle.std.proofs.lemmas.Bool.{and_parts, and_from, lt-ltb}
use Rattle.std.proofs.lemmas.List.{nil_from_length, length-append, length-replicate}
use Rattle.std.proofs.lemmas.List.Elements.{All-nil, All-cons, All-push, All-pop, All-append, All-replicate}
use Rattle.std.proofs.lemmas.List.Elements.{All-contains, Contains-push, Contains-append_left, Contains-append_right}
use Rattle.element.specs.Algebra.{Algebra}
use Rattle.medium.specs.Calls.{Rules, Call, take_call, put_call, Leads, Calls, no_call, one_call, FillsEmptyLanes}
use Rattle.medium.specs.Lanes.{Lanes, is_lane, same_lane}
use Rattle.medium.specs.declared.frame.Frame.{Frame}
use Rattle.plan.specs.Links.{Shape}
use Rattle.protocol.specs.Runs.{seen}
use Rattle.protocol.specs.Turns.{State, sum_others, owes, put_frame, left, lost}
use Rattle.protocol.specs.declared.tally.Tally.{Tally}
use Rattle.protocol.proofs.Lanes.{same_lane_self}
use Rattle.turns.specs.Called.{take_calls, put_calls}
use Rattle.circles.specs.Chains.{Snapshot, moment_at, TurnLeads, TurnsLead, no_turn, next_turn, CirclesLead, no_circle}
use Rattle.circles.specs.Chains.{next_circle}

-- ---- calls

both_empty : (fs : List Frame) (k : ℕ) (f : Frame) → fs ++ replicate k f ≡ [] → (fs ≡ []) × (k ≡ 0)
both_empty fs k f e =
    let none : length fs + k ≡ 0 =
    omega (arith, ap length e, length-append fs (replicate k f), length-replicate k f) in
    (nil_from_length fs (omega arith), omega arith)

module _ (p q : ℕ) where
  -- a call that takes nothing from the lane from p to q; one that puts nothing to it
  abbrev NoTake : Call → Type 0
  NoTake (take_call from to) = same_lane from to p q ≡ false
  NoTake (put_call from to f) = Unit {0}

  abbrev NoPut : Call → Type 0
  NoPut (take_call from to) = Unit {0}
  NoPut (put_call from to f) = same_lane from to p q ≡ false

  module _ {D : Type 0} (R : Rules D) (fills : FillsEmptyLanes R) (is : is_lane p q ≡ true) where
    none_put_by : (c : Call) (d e : D) → Leads R c d e → NoTake c → R.lanes e p q ≡ []
        → (R.lanes d p q ≡ []) × NoPut c
    none_put_by (take_call from to) d e (after, _) untaken empty =
        (sym (ap (λ l. l p q) after ∙ cond-false _ _ _ untaken) ∙ empty, tt)
    none_put_by (put_call from to f) d e (k, after, put) untaken empty = elim (cases_Bool (same_lane from to p q)) [
      | inr other ↦ (sym (ap (λ l. l p q) after ∙ cond-false _ _ _ other) ∙ empty, other)
      | inl same ↦
          let (was, none) = both_empty (R.lanes d p q) k f
          (sym (ap (λ l. l p q) after ∙ cond-true _ _ _ same) ∙ empty) in
          let (p_is, q_is) = and_parts (eqb p from) (eqb q to) same in
          absurd (fills d e from to f k
          (rw (← eqb-true p from p_is, ← eqb-true q to q_is) is)
          (rw (← eqb-true p from p_is, ← eqb-true q to q_is) was) put none)
    ]

    -- a lane that is empty after calls of which none took from it was put to by none of them
    none_put : (d : D) (cs : List Call) (e : D) → Calls R d cs e → All NoTake cs → R.lanes e p q ≡ [] → All NoPut cs
    none_put d cs e no_call untaken empty = All-nil NoPut
    none_put d cs e (one_call cs' c e' e'' before led) untaken empty =
        let (earlier, last) = All-pop NoTake (cs' ++ c ∷ []) cs' (Some c) refl untaken in
        let (was, unput) = none_put_by c e' e'' led last empty in
        All-push NoPut cs' c (none_put d cs' e' before earlier was) unput

module _ (p : ℕ) (lanes : Lanes) (due : ℕ → Bool) (frame_to : ℕ → Frame) (q : ℕ) (apart : q ≢ p) where
  takes_from_others : (k : ℕ) → All (NoTake p q) (take_calls lanes p k)
  takes_from_others zero = All-nil (NoTake p q)
  takes_from_others (suc r) = All-append (NoTake p q) _ _ (takes_from_others r) (elim (cases_eq r p) [
    | inl e ↦ rw (eq-eqb r p e) (All-nil (NoTake p q))
    | inr d ↦ rw (ne_eqb r p d)
        (All-replicate (NoTake p q) _ (take_call r p) (rw (ne_eqb p r (λ x. d (sym x))) refl))
  ])

  puts_take_none : (k : ℕ) → All (NoTake p q) (put_calls due frame_to p k)
  puts_take_none zero = All-nil (NoTake p q)
  puts_take_none (suc r) = All-append (NoTake p q) _ _ (puts_take_none r)
      (elim (cases_Bool (not (eqb r p) && due r)) [
        | inl e ↦ rw e (All-cons (NoTake p q) _ [] tt (All-nil (NoTake p q)))
        | inr e ↦ rw e (All-nil (NoTake p q))
      ])

  due_is_put : (k : ℕ) → q < k → due q ≡ true → Contains (put_calls due frame_to p k) (put_call p q (frame_to q))
  due_is_put zero l is = absurd (omega arith)
  due_is_put (suc r) l is = elim (cases_eq q r) [
    | inl e ↦ rw (← e, ne_eqb q p apart, is) (Contains-push (put_calls due frame_to p q) _)
    | inr d ↦ Contains-append_left _ _ _ (due_is_put r (omega arith) is)
  ]

  -- where calls as those of a turn leave no frame from p to q, none was due
  none_due : {D : Type 0} (R : Rules D) → FillsEmptyLanes R → is_lane p q ≡ true → (k : ℕ) → q < k → (d e : D)
      → Calls R d (take_calls lanes p k ++ put_calls due frame_to p k) e → R.lanes e p q ≡ [] → due q ≢ true
  none_due R fills is k l d e calls empty some =
      let untaken = All-append (NoTake p q) _ _ (takes_from_others k) (puts_take_none k) in
      let unput = none_put p q R fills is d _ e calls untaken empty in
      let put = Contains-append_right (take_calls lanes p k) _ _ (due_is_put k l some) in
      both_ways _ (All-contains (NoPut p q) _ _ unput put) (same_lane_self p q)

-- ---- turns

sum_of_zeros : (p k : ℕ) (f : ℕ → ℕ) → ((q : ℕ) → q < k → q ≢ p → f q ≡ 0) → sum_others p k f ≡ 0
sum_of_zeros p zero f none = refl
sum_of_zeros p (suc k) f none =
    let before = sum_of_zeros p k f (λ q l d. none q (omega arith) d) in
    elim (cases_eq k p) [
      | inl e ↦ rw (eq-eqb k p e) (omega arith)
      | inr d ↦ rw (ne_eqb k p d) (omega (arith, none k (omega arith) d))
    ]

-- b turned last after a, once the boards below k have turned in this circle
abbrev TurnedAfter : ℕ → ℕ → ℕ → Type 0
TurnedAfter k a b = ((b < k) × (k ≤ a)) ⊎ ((a < b) × ((b < k) ⊎ (k ≤ a)))

after_another : (k a b : ℕ) → TurnedAfter k a b → a ≢ b
after_another k a b h e = grind arith

before_its_turn : (k q : ℕ) → q ≢ k → TurnedAfter k k q
before_its_turn k q d = grind arith

-- a turn of k changes it for k alone
not_after_itself : (k a b : ℕ) → TurnedAfter (suc k) a b → b ≢ k → a ≢ k
not_after_itself k a b h d e = grind arith

after_already : (k a b : ℕ) → TurnedAfter (suc k) a b → b ≢ k → TurnedAfter k a b
after_already k a b h d = grind arith

-- and the end of a circle is the start of the next
next_start : (n a b : ℕ) → b < n → TurnedAfter 0 a b → TurnedAfter n a b
next_start n a b l h = grind arith

module _ {M D : Type 0} (A : Algebra M) (R : Rules D) (fills : FillsEmptyLanes R) (P : Shape) (few : P.boards ≤ 8) where
  module _ (p : ℕ) (x y : Snapshot M D) (t : TurnLeads A R P p x y) where
    abbrev s : State M
    s = seen A (moment_at R x)

    abbrev u : State M
    u = seen A (moment_at R y)

    -- a put that is due to an empty lane leaves a frame
    some_left : (q : ℕ) → q < P.boards → q ≢ p → s.lane p q ≡ [] → owes A P s u p q ≡ true → left A P s u p q ≢ 0
    some_left q l apart empty due none =
        let is = and_from _ _ (lt-ltb p 8 (omega (arith, t.turn.below))) (lt-ltb q 8 (omega arith)) in
        let gone = nil_from_length (u.lane p q) (omega (arith, none, ap length empty)) in
        none_due p s.lane (owes A P s u p) (put_frame A P s u p) q apart R fills is P.boards l x.medium y.medium t.calls
        gone due

    none_lost : ((q : ℕ) → q < P.boards → q ≢ p → s.lane p q ≡ []) → lost A P s u p ≡ 0
    none_lost empty = sum_of_zeros p P.boards _ (λ q l apart. elim (cases_Bool (owes A P s u p q)) [
      | inl due ↦ rw (due, ne_eqb (left A P s u p q) 0 (some_left q l apart (empty q l apart) due)) refl
      | inr none ↦ rw none refl
    ])

  -- ---- circles

  -- a lane is empty where its receiver turned after its sender
  abbrev Drained : ℕ → Snapshot M D → Type 0
  Drained k x = (a b : ℕ) → a < P.boards → b < P.boards → TurnedAfter k a b → R.lanes x.medium a b ≡ []

  turn_drains : (k : ℕ) (x y : Snapshot M D) → TurnLeads A R P k x y → Drained k x
      → Drained (suc k) y × (y.tally.lost ≡ x.tally.lost)
  turn_drains k x y t drained = (
    λ a b la lb after. elim (cases_eq b k) [
      | inl e ↦ rw e (t.turn.turned.taken a la (λ d. after_another (suc k) a b after (d ∙ sym e)))
      | inr d ↦ t.turn.turned.lane_rest a b (inl (not_after_itself k a b after d, d))
          ∙ drained a b la lb (after_already k a b after d)
    ],
    omega (
      arith,
      ap (λ (n : Tally). n.lost) t.turn.counted,
      none_lost k x y t (λ q l d. drained k q t.turn.below l (before_its_turn k q d)),
    ),
  )

  boards_drain : (x : Snapshot M D) (k : ℕ) (y : Snapshot M D) → TurnsLead A R P x k y → Drained 0 x
      → Drained k y × (y.tally.lost ≡ x.tally.lost)
  boards_drain x k y no_turn drained = (drained, refl)
  boards_drain x k y (next_turn p y₁ y₂ before t) drained =
      let (drained₁, same₁) = boards_drain x p y₁ before drained in
      let (drained₂, same₂) = turn_drains p y₁ y₂ t drained₁ in
      (drained₂, same₂ ∙ same₁)

  circles_drain : (met : (ℕ → ℕ → ℕ) → Bool) (x : Snapshot M D) (k : ℕ) (y : Snapshot M D)
      → CirclesLead A R P met x k y → Drained 0 x → Drained 0 y × (y.tally.lost ≡ x.tally.lost)
  circles_drain met x k y no_circle drained = (drained, refl)
  circles_drain met x k y (next_circle j y₁ y₂ before more circle) drained =
      let (drained₁, same₁) = circles_drain met x j y₁ before drained in
      let (drained₂, same₂) = boards_drain y₁ P.boards y₂ circle drained₁ in
      (λ a b la lb after. drained₂ a b la lb (next_start P.boards a b lb after), same₂ ∙ same₁)

  -- whole circles lose no put where no frame waits as they begin
  pub circles_lose_none : (met : (ℕ → ℕ → ℕ) → Bool) (x : Snapshot M D) (k : ℕ) (y : Snapshot M D)
      → ((a b : ℕ) → R.lanes x.medium a b ≡ []) → CirclesLead A R P met x k y → y.tally.lost ≡ x.tally.lost
  circles_lose_none met x k y idle led = (circles_drain met x k y led (λ a b _ _ _. idle a b)).1
