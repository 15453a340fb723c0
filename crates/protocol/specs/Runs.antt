-- Runs: every moment that turns of any boards, and any other calls, in any order, lead to from a fresh start.
use Rattle.std.specs.Prelude.{◌≡◌, ℕ, ◌+◌, ◌-◌, ◌*◌, ◌<◌, ◌≤◌, cond, List, [], ◌∷◌, ◌++◌, length, get_or}
use Rattle.std.specs.Prelude.{Option, Some, None, nat_le, nat_lt, slice_index_or}
use Rattle.element.specs.Algebra.{Algebra}
use Rattle.medium.specs.Lanes.{Lanes, is_lane}
use Rattle.scene.specs.Cells.{Scene}
use Rattle.scene.specs.Sums.{own_sum}
use Rattle.plan.specs.Links.{Shape, shape, no_copy}
use Rattle.plan.specs.declared.records.CopyRecord.{CopyRecord}
use Rattle.forest.specs.Forest.{laid_copies, laid_edges}
use Rattle.protocol.specs.declared.table.Link.{Link}
use Rattle.protocol.specs.declared.tally.Tally.{Tally}
use Rattle.protocol.specs.declared.tally.TurnCounts.{TurnCounts}
use Rattle.protocol.specs.declared.fault.RunFault.{RunFault}
use Rattle.protocol.specs.declared.fault.RunFault.TheVariants.{Short, Board, Turns}
use Rattle.protocol.specs.Faults.{turn_limit}
use Rattle.protocol.specs.Turns.{State, Turned, sum_others, owes, lost}
use Rattle.protocol.specs.Books.{Book, blank, fed, lowest_unsettled}

-- what the calls of a run are given
pub record Moment (M : Type 0) : Type 0 where
  pub tally : Tally
  pub links : List Link
  pub copies : List M
  pub lanes : Lanes

abbrev pub moment : {M : Type 0} → Tally → List Link → List M → Lanes → Moment M
moment tally links copies lanes = record { tally = tally; links = links; copies = copies; lanes = lanes }

abbrev pub no_link : Link
no_link = record { i = 0; j = 0 }

abbrev pub no_tally : Tally
no_tally = record { turns = 0; puts = 0; lost = 0; accepted = 0 }

-- why a turn is refused: no such board, then no turn left, then too little memory for the plan's copies
abbrev pub turn_fault : {M : Type 0} → ℕ → List CopyRecord → ℕ → Moment M → Option RunFault
turn_fault boards copies p m =
    cond (nat_lt p boards)
    (cond (nat_lt m.tally.turns turn_limit)
    (cond (nat_le (length copies) (length m.copies)) None (Some (Short (length copies))))
    (Some Turns))
    (Some (Board p))

-- the record of the link from a to b in the flat table
abbrev pub link_at : List Link → ℕ → ℕ → Link
link_at links a b = cond (is_lane a b) (slice_index_or links (8 * a + b) no_link) no_link

-- the items accepted, by link
abbrev pub accepted_in : List Link → ℕ → ℕ → ℕ
accepted_in links a b = (link_at links a b).j

-- a moment, by boards and copy numbers
abbrev pub seen : {M : Type 0} → Algebra M → Moment M → State M
seen A m = record {
  i = λ a b. (link_at m.links a b).i;
  j = accepted_in m.links;
  lane = m.lanes;
  val = λ c. slice_index_or m.copies c A.zero;
}

-- the four numbers of a turn of p from s to u
abbrev pub counts : {M : Type 0} → Algebra M → Shape → State M → State M → ℕ → TurnCounts
counts A P s u p = record {
  taken = sum_others p P.boards (λ q. length (s.lane q p));
  accepted = sum_others p P.boards (λ q. u.j q p - s.j q p);
  puts = sum_others p P.boards (λ q. cond (owes A P s u p q) 1 0);
  lost = lost A P s u p;
}

-- a tally after one more turn
abbrev pub tallied : TurnCounts → Tally → Tally
tallied n t = record {
  turns = t.turns + 1;
  puts = t.puts + n.puts;
  lost = t.lost + n.lost;
  accepted = t.accepted + n.accepted;
}

module _ {M : Type 0} (A : Algebra M) (P : Shape) where
  -- an accepted turn of p leads from one moment to the next
  pub record Turn (p : ℕ) (m m' : Moment M) : Type 0 where
    pub below : p < P.boards
    pub turned : Turned A P (seen A m) (seen A m') p
    pub same_length : length m'.copies ≡ length m.copies
    pub counted : m'.tally ≡ tallied (counts A P (seen A m) (seen A m') p) m.tally

module _ {M : Type 0} (A : Algebra M) (s : Scene) where
  -- the scene's laid plan, as turns see it
  abbrev pub laid : Shape
  laid = shape s.boards (laid_edges s)

  -- just after start: nothing counted, nothing under way, each copy its board's own sum
  pub record Fresh (m : Moment M) : Type 0 where
    pub no_turns : m.tally ≡ no_tally
    pub no_counts : (a b : ℕ) → link_at m.links a b ≡ no_link
    pub no_frames : (a b : ℕ) → m.lanes a b ≡ []
    pub room : length (laid_copies s) ≤ length m.copies
    pub loaded : (c : ℕ) → c < length (laid_copies s)
        → slice_index_or m.copies c A.zero
        ≡ own_sum A s (get_or (laid_copies s) c no_copy).board (get_or (laid_copies s) c no_copy).vertex

  -- a call that leaves all as it is
  pub data Still (m : Moment M) : Type 0 where
    -- a report of any board, be there such a board or not
    report : (p : ℕ) → Still m
    -- whether every board is settled; the tally so far
    all_settled : Still m
    tally : Still m
    -- a turn that is refused, in the run's memory or in any that is given for it
    refused_turn : (p : ℕ) (given : List M) (f : RunFault)
        → turn_fault s.boards (laid_copies s) p (moment m.tally m.links given m.lanes) ≡ Some f → Still m
    -- an end that comes too early: some board is not settled
    early_end : lowest_unsettled laid (accepted_in m.links) < s.boards → Still m

  -- the moments of a run, by the boards that turned, the book, and the puts that left no frame: turns of any boards
  -- and calls that leave all as it is, in any order
  pub data Run : List ℕ → Moment M → Book → ℕ → Type 0 where
    fresh : {m : Moment M} → Fresh m → Run [] m blank 0
    turn : {ts : List ℕ} {m : Moment M} {book : Book} {l : ℕ} (p : ℕ) (m' : Moment M)
        → Run ts m book l → Turn A laid p m m'
        → Run (ts ++ (p ∷ [])) m' (fed laid p m.lanes book) (l + lost A laid (seen A m) (seen A m') p)
    call : {ts : List ℕ} {m : Moment M} {book : Book} {l : ℕ} → Still m → Run ts m book l → Run ts m book l
