-- A run over a computed medium: what the steps of a turn, and as many frames as the medium appends, make of it.
use Rattle.std.specs.Prelude.{ℕ, zero, suc, ◌+◌, false, cond, not, ◌&&◌, List, replicate, ◌==◌}
use Rattle.element.specs.Algebra.{Algebra}
use Rattle.medium.specs.Lanes.{appended}
use Rattle.scene.specs.Cells.{Scene, Sound}
use Rattle.plan.specs.Links.{shape}
use Rattle.plan.specs.declared.records.Edge.{Edge}
use Rattle.forest.specs.Forest.{laid_copies, laid_edges}
use Rattle.protocol.specs.Runs.{seen, counts, tallied, laid, accepted_in}
use Rattle.protocol.specs.Steps.{Received, received, lanes_step, due, due_frame}
use Rattle.circles.specs.Chains.{Snapshot, snapshot, moment_at, CirclesUntil, all_settled}
use Rattle.cabinet.specs.Listed.{started, circle_limit}
use Rattle.cabinet.specs.Pages.{listing}
use Rattle.readings.specs.Media.{Medium, CountedLanes, counted_lanes, computed_rules, fresh_lanes}

module _ {M : Type 0} (A : Algebra M) (boards : ℕ) (edges : List Edge) where
  -- what board p has once it has taken all that waits for it
  abbrev pub haul : ℕ → Snapshot M CountedLanes → Received M
  haul p x = lanes_step A edges p boards (received x.links x.copies 0 x.medium.lanes 0 (replicate 8 false))

module _ {M : Type 0} (A : Algebra M) (medium : Medium) (boards : ℕ) (edges : List Edge) where
  -- p, which has taken, puts to q what is due
  abbrev pub after_put : ℕ → Received M → ℕ → CountedLanes → CountedLanes
  after_put p r q l =
      let f = due_frame A boards edges p r.held.links r.held.copies q in
      cond (not (q == p) && due A boards edges p r.held.links r.got q)
      (counted_lanes (l.puts + 1) (appended l.lanes p q f (medium l.puts l.lanes p q f)))
      l

  -- and to every other board below k, ascending
  abbrev pub after_puts : ℕ → Received M → ℕ → CountedLanes → CountedLanes
  after_puts p r zero l = l
  after_puts p r (suc k) l = after_put p r k (after_puts p r k l)

  -- a turn of p, counted
  abbrev pub after_turn : ℕ → Snapshot M CountedLanes → Snapshot M CountedLanes
  after_turn p x =
      let r = haul A boards edges p x in
      let l = after_puts p r boards (counted_lanes x.medium.puts r.lanes) in
      let y = snapshot x.tally r.held.links r.held.copies l in
      let R = computed_rules medium in
      let n = counts A (shape boards edges) (seen A (moment_at R x)) (seen A (moment_at R y)) p in
      snapshot (tallied n x.tally) r.held.links r.held.copies l

  -- the boards below k turn, ascending
  abbrev pub after_turns : ℕ → Snapshot M CountedLanes → Snapshot M CountedLanes
  after_turns zero x = x
  after_turns (suc k) x = after_turn k (after_turns k x)

  -- circles until all boards are settled, or as many as allowed
  abbrev pub after_circles : ℕ → Snapshot M CountedLanes → Snapshot M CountedLanes
  after_circles zero x = x
  after_circles (suc k) x =
      cond (all_settled (shape boards edges) (accepted_in x.links)) x (after_circles k (after_turns boards x))

module _ {M : Type 0} (A : Algebra M) (s : Scene) (medium : Medium) where
  -- where circles lead to from a fresh start
  abbrev pub led_to : ℕ → Snapshot M CountedLanes
  led_to limit = after_circles A medium s.boards (laid_edges s) limit (started A s fresh_lanes)

  -- and the listing of that, as the programs list it
  abbrev pub listed_over : List ℕ
  listed_over = listing A s (laid_copies s) (laid_edges s) (moment_at (computed_rules medium) (led_to circle_limit))

-- whatever number of circles is allowed, circles lead to what is computed, by a medium's rules and those of a run
abbrev pub RunsByTheRules : {M : Type 0} → Algebra M → Type 0
RunsByTheRules A = (medium : Medium) (s : Scene) → Sound s → (limit : ℕ)
    → CirclesUntil A (computed_rules medium) (laid A s) (all_settled (laid A s)) limit (started A s fresh_lanes)
    (led_to A s medium limit)
