-- A turn that is taken, with the run's tally.
use Rattle.std.proofs.Common.{◌≡◌, ℕ, ◌<◌, true, false, ◌&&◌, ltb, leb, List, length, Ok, Err, refl, ap, ◌∙◌, inl, inr}
use Rattle.std.proofs.lemmas.Bool.{cases_lt, lt-ltb, le-ltb, le-leb, leb-true, and_parts, and_from, both_ways}
use Rattle.element.specs.Algebra.{Algebra}
use Rattle.medium.specs.Lanes.{Lanes}
use Rattle.plan.specs.declared.records.CopyRecord.{CopyRecord}
use Rattle.plan.specs.declared.records.Edge.{Edge}
use Rattle.protocol.specs.declared.fault.RunFault.{RunFault}
use Rattle.protocol.specs.declared.fault.RunFault.TheVariants.{Turns}
use Rattle.protocol.specs.declared.table.Link.{Link}
use Rattle.protocol.specs.declared.tally.Tally.{Tally}
use Rattle.protocol.specs.declared.tally.TurnCounts.{TurnCounts}
use Rattle.protocol.specs.Faults.{turn_limit}
use Rattle.protocol.specs.Runs.{Moment, moment, no_tally, tallied}
use Rattle.turns.specs.Taken.{TurnTaken}
use Rattle.turns.proofs.Turns.{nothing_against}
use Rattle.exchange.specs.Calls.{TurnAnswers}

-- a board that is there, but no turn is left
pub over_is_refused : {M : Type 0} (A : Algebra M) (boards : ℕ) (records : List CopyRecord) (edges : List Edge) (p : ℕ)
    (m : Moment M) → (ltb p boards && leb turn_limit m.tally.turns) ≡ true
    → TurnAnswers A boards records edges p m m (Err Turns)
over_is_refused A boards records edges p m over =
    let (there, late) = and_parts (ltb p boards) _ over in
    (rw (there, le-ltb m.tally.turns turn_limit (leb-true _ _ late)) refl, refl)

module _ {M : Type 0} (A : Algebra M) (boards : ℕ) (records : List CopyRecord) (edges : List Edge) (p : ℕ)
    (tally : Tally) (links links' : List Link) (copies copies' : List M) (lanes lanes' : Lanes)
    (more : (ltb p boards && leb turn_limit tally.turns) ≡ false) where
  abbrev before : Tally → Moment M
  before t = moment t links copies lanes

  abbrev after : Tally → Moment M
  after t = moment t links' copies' lanes'

  turns_left : p < boards → tally.turns < turn_limit
  turns_left l = elim (cases_lt tally.turns turn_limit) [
    | inl m ↦ m
    | inr m ↦ absurd (both_ways _ more (and_from _ _ (lt-ltb p boards l) (le-leb turn_limit tally.turns m)))
  ]

  pub taken_is_accepted : (tally' : Tally) (n : TurnCounts) → tally' ≡ tallied n tally
      → TurnTaken A boards records edges p (before no_tally) (after no_tally) (Ok n)
      → TurnAnswers A boards records edges p (before tally) (after tally') (Ok n)
  taken_is_accepted tally' n counted (allowed, turned, as_many, numbers) =
      let fits = nothing_against boards records (length copies) p allowed in (
        rw (
          lt-ltb p boards fits.0,
          lt-ltb tally.turns turn_limit (turns_left fits.0),
          le-leb (length records) (length copies) fits.1,
        ) refl,
        record {
          below = fits.0;
          turned = turned;
          same_length = as_many;
          counted = counted ∙ ap (λ k. tallied k tally) numbers;
        },
        numbers,
      )

  pub untaken_is_refused : (f : RunFault)
      → TurnTaken A boards records edges p (before no_tally) (after no_tally) (Err f)
      → TurnAnswers A boards records edges p (before tally) (after tally) (Err f)
  untaken_is_refused f (against, same) = (
    elim (cases_lt p boards) [
      | inl l ↦ rw (lt-ltb p boards l, lt-ltb tally.turns turn_limit (turns_left l))
          (rw (lt-ltb p boards l) at against)
      | inr l ↦ rw (le-ltb p boards l) (rw (le-ltb p boards l) at against)
    ],
    ap (λ (x : Moment M). moment tally x.links x.copies x.lanes) same,
  )
