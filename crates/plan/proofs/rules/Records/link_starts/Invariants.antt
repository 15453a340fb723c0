-- The links passed have their starts, and so has the next.
use Rattle.std.proofs.Common.{◌≡◌, ℕ, ◌≤◌, length, get_or}
use Rattle.plan.specs.Starts.{edges_before}
use Rattle.plan.proofs.rules.Records.link_starts.Given as goal

abbrev pub invariant-loop-link : goal.invariant-loop-link
invariant-loop-link l =
    (length l.starts ≡ 65) × ((x : ℕ) → x ≤ l.link → get_or l.starts x 0 ≡ edges_before l.self.edges.now x)
