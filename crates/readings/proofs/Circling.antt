-- Computed circles are circles by the rules, and what they lead to is listed with all that is promised of a run.
use Rattle.std.proofs.Common.{◌≡◌, ℕ, zero, suc, ◌+◌, ◌*◌, ◌≤◌, false, ltb, [], ◌++◌, length}
use Rattle.std.proofs.Common.{sym, refl, ap, ◌∙◌, inl, inr, append-nil, arith}
use Rattle.std.proofs.lemmas.Bool.{and_parts, both_ways, cases_Bool, ltb-true}
use Rattle.std.proofs.lemmas.List.{get_or-replicate}
use Rattle.std.proofs.Math.Seq.{drop-nil}
use Rattle.element.specs.Algebra.{Algebra, Lawful}
use Rattle.medium.specs.Calls.{Rules}
use Rattle.medium.specs.Lanes.{is_lane}
use Rattle.plan.specs.Links.{Shape}
use Rattle.scene.specs.Cells.{Scene, Sound}
use Rattle.forest.specs.Forest.{laid_copies, laid_edges}
use Rattle.protocol.specs.Books.{blank}
use Rattle.protocol.specs.Runs.{Fresh, fresh, laid, no_link, accepted_in}
use Rattle.exchange.specs.Going.{Kept, LaidPlan, OwnSums}
use Rattle.exchange.proofs.Promises.{kept, own_sums_from_load}
use Rattle.circles.specs.Chains.{TurnsLead, no_turn, next_turn, CirclesLead, no_circle, next_circle, CirclesUntil}
use Rattle.circles.specs.Chains.{Snapshot, moment_at, all_settled}
use Rattle.circles.proofs.Turns.{circles_carry}
use Rattle.cabinet.specs.Listed.{Listed, circle_limit, started}
use Rattle.readings.specs.Media.{Medium, CountedLanes, computed_rules, fresh_lanes}
use Rattle.readings.specs.Runs.{after_turn, after_turns, after_circles, led_to, listed_over}
use Rattle.readings.proofs.Turning.{Ready, stays_ready, turn_leads}

module _ {M : Type 0} (A : Algebra M) (medium : Medium) (s : Scene) (ok : Sound s) where
  abbrev R : Rules CountedLanes
  R = computed_rules medium

  abbrev P : Shape
  P = laid A s

  abbrev start : Snapshot M CountedLanes
  start = started A s fresh_lanes

  own : OwnSums A s start.copies
  own = own_sums_from_load A s (laid_copies s) [] start.copies refl
      (sym (append-nil start.copies) ∙ ap (λ rest. start.copies ++ rest) (sym (drop-nil (length (laid_copies s)))))

  turns_below : (x : Snapshot M CountedLanes) → Ready s x → (k : ℕ) → k ≤ s.boards
      → let y = after_turns A medium s.boards (laid_edges s) k x in TurnsLead A R P x k y × Ready s y
  turns_below x ready zero l = (no_turn, ready)
  turns_below x ready (suc k) l =
      let (so_far, still) = turns_below x ready k (omega arith) in
      let y = after_turns A medium s.boards (laid_edges s) k x in (
        next_turn k y (after_turn A medium s.boards (laid_edges s) k y) so_far
            (turn_leads A medium s ok k y (omega arith) still),
        stays_ready A medium s ok k y (omega arith) still,
      )

  -- where circles led to, more circles
  more_circles : (limit j : ℕ) (x : Snapshot M CountedLanes) → Ready s x → CirclesLead A R P (all_settled P) start j x
      → let y = after_circles A medium s.boards (laid_edges s) limit x in
      (k : ℕ) × (k ≤ j + limit) × (all_settled P (accepted_in y.links) ≡ false → k ≡ j + limit)
      × CirclesLead A R P (all_settled P) start k y
  more_circles zero j x ready so_far = (j, omega arith, λ _. omega arith, so_far)
  more_circles (suc l) j x ready so_far = elim (cases_Bool (all_settled P (accepted_in x.links))) [
    | inl e ↦ rw e (j, omega arith, λ u. absurd (both_ways _ u e), so_far)
    | inr e ↦
        let (turns, still) = turns_below x ready s.boards (omega arith) in
        let (k, few, all, led) = more_circles l (suc j) _ still (next_circle j x _ so_far e turns) in
        rw e (k, omega arith, λ u. omega (arith, all u), led)
  ]

  pub circles_lead : (limit : ℕ)
      → CirclesUntil A R P (all_settled P) limit start (led_to A s medium limit)
  circles_lead limit =
      let (n, few, all, led) = more_circles limit 0 start (refl, own.room) no_circle in
      record { circles = n; few = omega (arith, few); led = led; ended = λ u. omega (arith, all u) }

  module _ (law : Lawful A) where
    fresh_start : Fresh A s (moment_at R start)
    fresh_start = record {
      no_turns = refl;
      no_counts = λ a b. elim (cases_Bool (is_lane a b)) [
        | inl e ↦
            let (l, m) = and_parts (ltb a 8) (ltb b 8) e in
            rw e (get_or-replicate 64 (8 * a + b) no_link no_link (omega (arith, ltb-true a 8 l, ltb-true b 8 m)))
        | inr e ↦ rw e refl
      ];
      no_frames = λ a b. refl;
      room = own.room;
      loaded = own.loaded;
    }

    begins : Kept A s [] (moment_at R start) blank 0
    begins = kept A law s ok [] (moment_at R start) blank 0 (fresh fresh_start)

    plan : LaidPlan s s.boards (laid_copies s) (laid_edges s)
    plan = record { sound = ok; same_boards = refl; same_copies = refl; same_edges = refl }

    pub listed : Listed A R s fresh_lanes (listed_over A s medium)
    listed =
        let run = circles_lead circle_limit in
        let (book, losses, kept) = circles_carry A law R s.boards (laid_copies s) (laid_edges s) s plan (all_settled P)
        start (led_to A s medium circle_limit) run.circles run.led [] blank 0 begins.run in
        record {
          end = led_to A s medium circle_limit;
          run = run;
          book = book;
          losses = losses;
          kept = kept;
          told = refl;
        }
