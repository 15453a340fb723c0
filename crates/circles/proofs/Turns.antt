-- What turns and circles one after the other come to: how many turns, how much memory, and every run carried on.
use Rattle.std.proofs.Common.{◌≡◌, ℕ, suc, ◌+◌, ◌*◌, ◌<◌, ◌≤◌, Bool, leb, List, length, None}
use Rattle.std.proofs.Common.{Err, sym, refl, ap, ◌∙◌, subst, add-mul, add-one, inl, inr, arith}
use Rattle.std.proofs.lemmas.Bool.{cases_Bool, leb-true, lt-ltb, le-leb}
use Rattle.std.specs.List.{range_with_len}
use Rattle.element.specs.Algebra.{Algebra, Lawful}
use Rattle.medium.specs.Calls.{Rules}
use Rattle.plan.specs.Links.{Shape, shape}
use Rattle.plan.specs.declared.records.CopyRecord.{CopyRecord}
use Rattle.plan.specs.declared.records.Edge.{Edge}
use Rattle.scene.specs.Cells.{Scene}
use Rattle.forest.proofs.Filters.{counting_next}
use Rattle.protocol.specs.Faults.{turn_limit}
use Rattle.protocol.specs.Runs.{Moment, turn_fault, seen, counts}
use Rattle.protocol.specs.declared.tally.Tally.{Tally}
use Rattle.protocol.specs.declared.fault.RunFault.{RunFault}
use Rattle.exchange.specs.Calls.{TurnAnswers}
use Rattle.exchange.specs.Going.{LaidPlan, Carried}
use Rattle.exchange.proofs.Promises.{carried_nowhere, carried_on, carried_further, turn_goes_on}
use Rattle.circles.specs.Chains.{Snapshot, moment_at, TurnsLead, no_turn, next_turn, CirclesLead, no_circle}
use Rattle.circles.specs.Chains.{next_circle}
use Rattle.circles.specs.Circles.{circle_fault, circles}

module _ {M D : Type 0} (A : Algebra M) (R : Rules D) (P : Shape) where
  -- each turn is one of the tally's, and the memory keeps its length
  pub turns_counted : (x y : Snapshot M D) (k : ℕ) → TurnsLead A R P x k y → y.tally.turns ≡ x.tally.turns + k
  turns_counted x y k no_turn = omega arith
  turns_counted x y k (next_turn p v w before t) =
      omega (arith, turns_counted x v p before, ap (λ (t : Tally). t.turns) t.turn.counted)

  pub same_room : (x y : Snapshot M D) (k : ℕ) → TurnsLead A R P x k y → length y.copies ≡ length x.copies
  same_room x y k no_turn = refl
  same_room x y k (next_turn p v w before t) = t.turn.same_length ∙ same_room x v p before

  pub circles_counted : (met : (ℕ → ℕ → ℕ) → Bool) (x y : Snapshot M D) (k : ℕ) → CirclesLead A R P met x k y
      → y.tally.turns ≡ x.tally.turns + k * P.boards
  circles_counted met x y k no_circle = omega arith
  circles_counted met x y k (next_circle j v w before un circle) =
      let product : (j + 1) * P.boards ≡ j * P.boards + 1 * P.boards = add-mul j 1 P.boards in
      let more : suc j * P.boards ≡ (j + 1) * P.boards = ap (λ n. n * P.boards) (sym (add-one j)) in
      omega (arith, circles_counted met x v j before, turns_counted v w P.boards circle, product, more)

module _ {M D : Type 0} (A : Algebra M) (law : Lawful A) (R : Rules D) (boards : ℕ) (records : List CopyRecord)
    (edges : List Edge) (s : Scene) (plan : LaidPlan s boards records edges) where
  -- they carry every run of the laid plan on
  pub turns_carry : (x y : Snapshot M D) (k : ℕ) → TurnsLead A R (shape boards edges) x k y
      → Carried A s (moment_at R x) (moment_at R y) (range_with_len 0 k)
  turns_carry x y k no_turn = carried_nowhere A law s plan.sound (moment_at R x)
  turns_carry x y k (next_turn p v w before t) =
      let n = counts A (shape boards edges) (seen A (moment_at R v)) (seen A (moment_at R w)) p in
      subst (λ us. Carried A s (moment_at R x) (moment_at R w) us) (sym (counting_next p))
      (carried_on A law s (moment_at R x) (moment_at R v) (moment_at R w) (range_with_len 0 p) p n
      (turns_carry x v p before)
      (turn_goes_on A law s boards records edges plan p (moment_at R v) (moment_at R w) n t.turn refl))

  pub circles_carry : (met : (ℕ → ℕ → ℕ) → Bool) (x y : Snapshot M D) (k : ℕ)
      → CirclesLead A R (shape boards edges) met x k y
      → Carried A s (moment_at R x) (moment_at R y) (circles boards k)
  circles_carry met x y k no_circle = carried_nowhere A law s plan.sound (moment_at R x)
  circles_carry met x y k (next_circle j v w before un circle) =
      carried_further A law s (moment_at R x) (moment_at R v) (moment_at R w) (circles boards j)
      (range_with_len 0 boards) (circles_carry met x v j before) (turns_carry v w boards circle)

-- a circle that is allowed has room, and turns for all boards
pub circle_allowed : (boards : ℕ) (records : List CopyRecord) (room turns : ℕ)
    → circle_fault boards records room turns ≡ None → (length records ≤ room) × (turns + boards ≤ turn_limit)
circle_allowed boards records room turns none = elim (cases_Bool (leb (length records) room)) [
  | inl e ↦ elim (cases_Bool (leb (turns + boards) turn_limit)) [
    | inl l ↦ (leb-true (length records) room e, leb-true (turns + boards) turn_limit l)
    | inr m ↦ absurd (let no = rw (e, m) at none in cc)
  ]
  | inr e ↦ absurd (let no = rw e at none in cc)
]

-- a turn of a board that there is, with room and a turn left, is not refused
pub not_refused : {M : Type 0} (A : Algebra M) (boards : ℕ) (records : List CopyRecord) (edges : List Edge) (p : ℕ)
    (m m' : Moment M) (f : RunFault) → p < boards → m.tally.turns < turn_limit → length records ≤ length m.copies
    → TurnAnswers A boards records edges p m m' (Err f) → ⊥
not_refused A boards records edges p m m' f l left room (some, _) =
    let none : turn_fault boards records p m ≡ None =
    rw (lt-ltb p boards l, lt-ltb m.tally.turns turn_limit left, le-leb (length records) (length m.copies) room)
    refl in
    cc
