-- Receiving and sending, as the code's contracts say them, are a turn.
use Rattle.std.proofs.Common.{◌≡◌, ℕ, ◌<◌, ◌≤◌, Bool, true, ltb, leb, List, length, None, Ok, sym, subst, inl, inr, ◌≢◌}
use Rattle.std.proofs.Common.{arith}
use Rattle.std.proofs.lemmas.Bool.{cases_Bool, leb-true, ltb-true}
use Rattle.element.specs.Algebra.{Algebra}
use Rattle.medium.specs.Lanes.{Lanes}
use Rattle.plan.specs.Links.{shape}
use Rattle.plan.specs.Sound.{sound_plan}
use Rattle.plan.specs.declared.records.CopyRecord.{CopyRecord}
use Rattle.plan.specs.declared.records.Edge.{Edge}
use Rattle.plan.proofs.Plans.{boards_within}
use Rattle.protocol.specs.declared.table.Link.{Link}
use Rattle.protocol.specs.declared.tally.TurnCounts.{TurnCounts}
use Rattle.protocol.specs.Turns.{Turned, owes}
use Rattle.protocol.specs.Runs.{Moment, moment, no_tally, seen, counts}
use Rattle.protocol.specs.Steps.{Sent, received, lanes_step, due, due_frame}
use Rattle.protocol.proofs.Elsewhere.{other_copies_stay, copies_stay_without_frames}
use Rattle.protocol.proofs.Fitting.{links_fit}
use Rattle.protocol.proofs.Received.{Below, received_below}
use Rattle.protocol.proofs.TurnMade.{turn_made, same_due, taken_counted, accepted_counted, puts_counted, lost_counted}
use Rattle.turns.specs.Taken.{taking_fault, TurnTaken, OwnCopiesAlone}

-- where nothing is against a turn, there is such a board, and memory for all copies
pub nothing_against : (boards : ℕ) (records : List CopyRecord) (room p : ℕ) → taking_fault boards records room p ≡ None
    → (p < boards) × (length records ≤ room)
nothing_against boards records room p none = elim (cases_Bool (ltb p boards)) [
  | inl e ↦ elim (cases_Bool (leb (length records) room)) [
    | inl f ↦ (ltb-true p boards e, leb-true (length records) room f)
    | inr f ↦ absurd (let no = rw (e, f) at none in grind arith)
  ]
  | inr e ↦ absurd (let no = rw e at none in grind arith)
]

module _ {M : Type 0} (A : Algebra M) (boards : ℕ) (records : List CopyRecord) (edges : List Edge)
    (sound : sound_plan boards records edges ≡ true) (p : ℕ)
    (links links' : List Link) (copies copies' : List M) (lanes between lanes' : Lanes) (got got' : List Bool)
    (taken accepted made lost : ℕ)
    (allowed : taking_fault boards records (length copies) p ≡ None)
    (long : length links ≡ 64) (eight : length got ≡ 8)
    (first : received links' copies' accepted between taken got'
    ≡ lanes_step A edges p boards (received links copies 0 lanes 0 got))
    (second : Sent p (due A boards edges p links' got') (due_frame A boards edges p links' copies') between boards
    lanes' made lost)
  where
    abbrev numbers : TurnCounts
    numbers = record { taken = taken; accepted = accepted; puts = made; lost = lost }

    abbrev m : Moment M
    m = moment no_tally links copies lanes

    abbrev m' : Moment M
    m' = moment no_tally links' copies' lanes'

    pb : p < boards
    pb = (nothing_against boards records (length copies) p allowed).0

    below : Below A boards edges p (received links copies 0 lanes 0 got) boards
        (received links' copies' accepted between taken got')
    below =
        let few = boards_within boards records edges sound in
        let room = (nothing_against boards records (length copies) p allowed).1 in
        subst (Below A boards edges p (received links copies 0 lanes 0 got) boards) (sym first)
        (received_below A boards edges p (received links copies 0 lanes 0 got) long eight (omega (arith, few.1, pb))
        (λ q l. links_fit boards records edges sound (length copies) room q p) boards few.1)

    numbers_are : numbers ≡ counts A (shape boards edges) (seen A m) (seen A m') p
    numbers_are = λ i. record {
      taken = taken_counted A boards edges p pb no_tally no_tally links copies lanes lanes' got _ below made lost
          second i;
      accepted = accepted_counted A boards edges p pb no_tally no_tally links copies lanes lanes' got _ below made
          lost second i;
      puts = puts_counted A boards edges p pb no_tally no_tally links copies lanes lanes' got _ below made lost
          second i;
      lost = lost_counted A boards edges p pb no_tally no_tally links copies lanes lanes' got _ below made lost
          second i;
    }

    turned : Turned A (shape boards edges) (seen A m) (seen A m') p
    turned = turn_made A boards edges p pb no_tally no_tally links copies lanes lanes' got _ below made lost second

    -- to whom a frame is due, by what was received, is as the rules of a turn say
    abbrev DueByTheRules : Type 0
    DueByTheRules = (q : ℕ) → q < boards → q ≢ p
        → due A boards edges p links' got' q ≡ owes A (shape boards edges) (seen A m) (seen A m') p q

    pub turn_by_the_rules : TurnTaken A boards records edges p m m' (Ok numbers)
        × OwnCopiesAlone A boards records p lanes copies copies'
        × DueByTheRules
    turn_by_the_rules = (
      (allowed, turned, below.as_many, numbers_are),
      record {
        others_stay = other_copies_stay A boards records edges sound p m m' turned;
        by_frames_alone = copies_stay_without_frames A boards records edges sound p m m' turned below.as_many;
      },
      same_due A boards edges p pb no_tally no_tally links copies lanes lanes' got _ below made lost second,
    )
