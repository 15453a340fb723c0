-- Turns and circles one after the other, over a medium that goes from call to call.
use Rattle.std.specs.Prelude.{◌≡◌, ℕ, suc, ◌≤◌, Bool, false, not, List}
use Rattle.std.specs.Prelude.{nat_lt}
use Rattle.element.specs.Algebra.{Algebra}
use Rattle.medium.specs.Calls.{Rules, Calls}
use Rattle.plan.specs.Links.{Shape}
use Rattle.protocol.specs.Books.{lowest_unsettled}
use Rattle.protocol.specs.Runs.{Moment, Turn, moment, seen, accepted_in}
use Rattle.protocol.specs.declared.table.Link.{Link}
use Rattle.protocol.specs.declared.tally.Tally.{Tally}
use Rattle.turns.specs.Called.{turn_calls}

-- a moment of a run, with the medium's own value in the place of its lanes
pub record Snapshot (M D : Type 0) : Type 0 where
  pub tally : Tally
  pub links : List Link
  pub copies : List M
  pub medium : D

abbrev pub snapshot : {M D : Type 0} → Tally → List Link → List M → D → Snapshot M D
snapshot tally links copies medium = record { tally = tally; links = links; copies = copies; medium = medium }

-- the moment that it shows
abbrev pub moment_at : {M D : Type 0} → Rules D → Snapshot M D → Moment M
moment_at R x = moment x.tally x.links x.copies (R.lanes x.medium)

-- every board is settled, by the counts of accepted items
abbrev pub all_settled : Shape → (ℕ → ℕ → ℕ) → Bool
all_settled P accepted = not (nat_lt (lowest_unsettled P accepted) P.boards)

module _ {M D : Type 0} (A : Algebra M) (R : Rules D) (P : Shape) where
  -- an accepted turn of p leads from x to y, by the rules of a turn and by just its calls of the medium
  pub record TurnLeads (p : ℕ) (x y : Snapshot M D) : Type 0 where
    pub turn : Turn A P p (moment_at R x) (moment_at R y)
    pub calls : Calls R x.medium (turn_calls A P (seen A (moment_at R x)) (seen A (moment_at R y)) p) y.medium

  -- turns of the boards below k, ascending, each made where the one before it led
  pub data TurnsLead (x : Snapshot M D) : ℕ → Snapshot M D → Type 0 where
    no_turn : TurnsLead x 0 x
    next_turn : (p : ℕ) (y z : Snapshot M D) → TurnsLead x p y → TurnLeads p y z → TurnsLead x (suc p) z

  -- k circles of all boards, each made where the one before it led; before each the test of what was accepted fails
  pub data CirclesLead (met : (ℕ → ℕ → ℕ) → Bool) (x : Snapshot M D) : ℕ → Snapshot M D → Type 0 where
    no_circle : CirclesLead met x 0 x
    next_circle : (k : ℕ) (y z : Snapshot M D) → CirclesLead met x k y → met (accepted_in y.links) ≡ false
        → TurnsLead y P.boards z → CirclesLead met x (suc k) z

  -- circles until the test holds, or until as many were made as allowed
  pub record CirclesUntil (met : (ℕ → ℕ → ℕ) → Bool) (limit : ℕ) (x y : Snapshot M D) : Type 0 where
    pub circles : ℕ
    pub few : circles ≤ limit
    pub led : CirclesLead met x circles y
    pub ended : met (accepted_in y.links) ≡ false → circles ≡ limit
