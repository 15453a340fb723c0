-- A run that is listed is one that circles led to from a fresh start.
use Rattle.std.proofs.Common.{◌≡◌, ℕ, ◌+◌, ◌*◌, ◌<◌, ◌≤◌, false, List, [], ◌++◌, append-nil, length, drop, Some, None, Ok}
use Rattle.std.proofs.Common.{rules, Err, Result, refl, ap, ◌∙◌, subst, inl, inr, le_trans, mul-le-mul_right}
use Rattle.std.proofs.Common.{Option, add-mul}
use Rattle.std.proofs.Common.{mul-le-mul_left, arith}
use Rattle.std.proofs.lemmas.Bool.{both_ways, cases_lt, eq-eqb, le-leb}
use Rattle.element.specs.Algebra.{Algebra, Lawful}
use Rattle.element.specs.Models.{force_algebra, depth_algebra, tags_algebra}
use Rattle.element.specs.Forces.{force_lawful}
use Rattle.element.specs.Unions.{tags_lawful}
use Rattle.medium.specs.Calls.{Rules}
use Rattle.medium.specs.Lanes.{Lanes}
use Rattle.scene.specs.Cells.{Scene, Sound}
use Rattle.plan.specs.Links.{shape}
use Rattle.sums.specs.Sums.{loaded_copies}
use Rattle.plan.specs.declared.records.CopyRecord.{CopyRecord}
use Rattle.plan.specs.declared.records.Edge.{Edge}
use Rattle.forest.specs.Forest.{laid_copies, laid_edges}
use Rattle.protocol.specs.Books.{blank}
use Rattle.protocol.specs.Faults.{turn_limit}
use Rattle.protocol.specs.Runs.{laid, accepted_in}
use Rattle.protocol.specs.declared.fault.RunFault.{RunFault}
use Rattle.std.proofs.lemmas.List.{drop_all, length-map}
use Rattle.protocol.specs.declared.table.Link.{Link}
use Rattle.protocol.proofs.Theorem.{promise_holds}
use Rattle.sums.specs.Sums.{load_fault}
use Rattle.exchange.specs.Calls.{FirstWaiting, IdleBefore}
use Rattle.exchange.specs.Going.{LaidPlan, Kept, BeginAnswers}
use Rattle.exchange.specs.declared.run.Turning.{Turning}
use Rattle.listing.specs.declared.lines.PlanNumbers.{PlanNumbers}
use Rattle.circles.specs.Chains.{Snapshot, snapshot, moment_at, CirclesLead, all_settled}
use Rattle.circles.specs.Circles.{SettleAnswers, EndsBy, room_fault}
use Rattle.circles.specs.declared.settle.Ending.{Ending}
use Rattle.circles.specs.declared.settle.Ending.TheVariants.{Met, Limit, OutOfTurns}
use Rattle.circles.specs.declared.settle.Settling.{Settling}
use Rattle.circles.proofs.Turns.{circles_carry, circles_counted}
use Rattle.cabinet.specs.Pages.{head_page, numbers_of, boards_page, table_report}
use Rattle.cabinet.specs.Listed.{EveryRunOfEachKind, Listed, RunTold, waits, circle_limit, started}
use Rattle.cabinet.specs.Pages.{refused_page}
use Rattle.refusals.specs.declared.refusal.Refusal.TheVariants.{Run}

-- ---- the promise

pub each_kind_keeps_the_promise : EveryRunOfEachKind
each_kind_keeps_the_promise = record {
  forces = promise_holds force_algebra force_lawful;
  depths = promise_holds depth_algebra (Prim.search rules);
  tags = promise_holds tags_algebra tags_lawful;
}

-- ---- lanes

pub waiting_is_not_idle : (lanes : Lanes) (k n : ℕ) → k < n → IdleBefore lanes n → FirstWaiting lanes k → ⊥
waiting_is_not_idle lanes k n l idle w = let e = ap length (idle k l) in omega (arith, e, w.waits)

pub one_lane_is_first : (lanes : Lanes) (j k : ℕ) → FirstWaiting lanes j → FirstWaiting lanes k → j ≡ k
one_lane_is_first lanes j k v w = elim (cases_lt j k) [
  | inl l ↦ absurd (waiting_is_not_idle lanes j k l w.idle v)
  | inr m ↦ elim (cases_lt k j) [
    | inl l ↦ absurd (waiting_is_not_idle lanes k j l v.idle w)
    | inr n ↦ omega arith
  ]
]

-- ---- the run

not_both : {f : RunFault} (o : Option RunFault) → o ≡ None → o ≡ Some f → ⊥
not_both o none some = grind arith

-- elements of the scene's kind, and room for all copies: nothing is against loading
pub loading_is_allowed : {M : Type 0} (A : Algebra M) (s : Scene) (records : List CopyRecord) (memory : List M)
    → s.kind ≡ A.kind → length records ≤ length memory → load_fault A s records memory ≡ None
loading_is_allowed A s records memory kind room = rw (eq-eqb s.kind A.kind kind, le-leb _ _ room) refl

-- a run that does not begin is refused for the first lane in which a frame waits
pub run_refused : {M D : Type 0} (A : Algebra M) (R : Rules D) (s : Scene) (records : List CopyRecord) (d : D)
    (memory memory' : List M) (links links' : List Link) (f : RunFault)
    → s.kind ≡ A.kind → length records ≤ length memory
    → BeginAnswers A s records (R.lanes d) memory memory' links links' (Err f)
    → RunTold A R s d (refused_page (Run f))
run_refused A R s records d memory memory' links links' f kind room (why, _, _) = elim why [
  | inl some ↦
      absurd (not_both (load_fault A s records memory) (loading_is_allowed A s records memory kind room) some)
  | inr (_, (k, first, is)) ↦ waits k first (ap (λ x. refused_page (Run x)) is)
]

module _ {M D : Type 0} (A : Algebra M) (law : Lawful A) (R : Rules D) (s : Scene) (d : D) (y : Snapshot M D)
    (page : List ℕ) (begun : Kept A s [] (moment_at R (started A s d)) blank 0) where
  -- what is known where a run is listed
  abbrev TurnedTo : Result Settling RunFault → ℕ → List CopyRecord → List Edge → Type 0
  TurnedTo r boards records edges =
      SettleAnswers A R boards records edges (all_settled (shape boards edges)) circle_limit (started A s d) y r
      × (page ≡ head_page (numbers_of s records edges) y.tally
      ++ boards_page A (table_report boards edges y.links) records y.copies boards)

  -- there are turns enough for all the circles allowed
  turns_left : Sound s → (k : ℕ) → k < circle_limit
      → CirclesLead A R (laid A s) (all_settled (laid A s)) (started A s d) k y
      → turn_limit < y.tally.turns + s.boards → ⊥
  turns_left ok k few led over =
      let made = circles_counted A R (laid A s) (all_settled (laid A s)) (started A s d) y k led in
      let most : (k + 1) * s.boards ≤ circle_limit * 8 =
      le_trans (mul-le-mul_right s.boards (omega arith)) (mul-le-mul_left circle_limit ok.few_boards) in
      omega (arith, made, most, over, add-mul k 1 s.boards)

  stopped : Sound s → (k : ℕ) (e : Ending) → CirclesLead A R (laid A s) (all_settled (laid A s)) (started A s d) k y
      → EndsBy A R s.boards (laid_copies s) (laid_edges s) (all_settled (laid A s)) circle_limit k y e
      → all_settled (laid A s) (accepted_in y.links) ≡ false → k ≡ circle_limit
  stopped ok k Met led met un = absurd (both_ways _ un met)
  stopped ok k Limit led (_, all) un = all
  stopped ok k OutOfTurns led (_, few, over) un = absurd (turns_left ok k few led over)

  laid_run_listed : (r : Result Settling RunFault) → LaidPlan s s.boards (laid_copies s) (laid_edges s)
      → TurnedTo r s.boards (laid_copies s) (laid_edges s) → Listed A R s d page
  laid_run_listed (Ok e) plan ((_, few, led, ends), told) =
      let (book, losses, kept) = circles_carry A law R s.boards (laid_copies s) (laid_edges s) s plan
      (all_settled (laid A s)) (started A s d) y e.circles led [] blank 0 begun.run in
      record {
        end = y;
        run = record {
          circles = e.circles;
          few = few;
          led = led;
          ended = stopped plan.sound e.circles e.ending led ends;
        };
        book = book;
        losses = losses;
        kept = kept;
        told = told;
      }
  laid_run_listed (Err f) plan ((some, _), told) =
      let all : length (loaded_copies A s (laid_copies s)) ≡ length (laid_copies s) = length-map (laid_copies s) _ in
      absurd (not_both (room_fault (laid_copies s) (length (loaded_copies A s (laid_copies s))))
      (rw (le-leb (length (laid_copies s)) (length (loaded_copies A s (laid_copies s))) (omega arith)) refl) some)

  pub run_listed : (r : Result Settling RunFault) (boards : ℕ) (records : List CopyRecord) (edges : List Edge)
      → LaidPlan s boards records edges → TurnedTo r boards records edges → Listed A R s d page
  run_listed r boards records edges plan turned =
      laid_run_listed r record { sound = plan.sound; same_boards = refl; same_copies = refl; same_edges = refl }
      (subst (λ b. TurnedTo r b (laid_copies s) (laid_edges s)) plan.same_boards
      (subst (λ rs. TurnedTo r boards rs (laid_edges s)) plan.same_copies
      (subst (λ es. TurnedTo r boards records es) plan.same_edges turned)))

-- a run that begins over memory for just the plan's copies begins where it should
pub same_start : {M D : Type 0} (A : Algebra M) (s : Scene) (records : List CopyRecord) (lanes : Lanes) (d : D)
    (memory memory' : List M) (links links' : List Link) (t : Turning) → records ≡ laid_copies s
    → length memory ≡ length records → BeginAnswers A s records lanes memory memory' links links' (Ok t)
    → snapshot t.tally links' memory' d ≡ started A s d
same_start A s records lanes d memory memory' links links' t plan room (_, _, none, set, reset) =
    let rest : drop (length records) memory ≡ [] = drop_all (length records) memory (omega (arith, room)) in
    let loaded : memory' ≡ loaded_copies A s (laid_copies s) =
    set ∙ ap (λ r. loaded_copies A s records ++ r) rest ∙ append-nil (loaded_copies A s records)
    ∙ ap (loaded_copies A s) plan in
    λ i. record { tally = none i; links = reset i; copies = loaded i; medium = d }

-- a scene's numbers, read one by one
pub same_numbers : (s : Scene) (records : List CopyRecord) (edges : List Edge) (n : PlanNumbers)
    → n.boards ≡ s.boards → n.overlap ≡ s.overlap → n.kind ≡ s.kind
    → n.copies ≡ length records → n.edges ≡ length edges → n ≡ numbers_of s records edges
same_numbers s records edges n b o k c e = λ i. record {
  boards = b i;
  overlap = o i;
  kind = k i;
  copies = c i;
  edges = e i;
}
