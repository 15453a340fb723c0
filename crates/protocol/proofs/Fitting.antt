-- The edges of a plan name copies that memory for the plan's copies holds, and a link has few of them.
use Rattle.std.proofs.Common.{◌≡◌, ℕ, ◌≤◌, true, List, length, arith}
use Rattle.plan.specs.Links.{edges_between}
use Rattle.plan.specs.Sound.{sound_plan}
use Rattle.plan.specs.declared.records.CopyRecord.{CopyRecord}
use Rattle.plan.specs.declared.records.Edge.{Edge}
use Rattle.plan.proofs.Plans.{between_at, few_between}
use Rattle.protocol.specs.Steps.{Fit}

pub links_fit : (boards : ℕ) (copies : List CopyRecord) (edges : List Edge) → sound_plan boards copies edges ≡ true
    → (n : ℕ) → length copies ≤ n → (p q : ℕ) → Fit (edges_between edges p q) (edges_between edges q p) n
links_fit boards copies edges sound n room p q = record {
  up_leaves = λ m l. omega (arith, (between_at boards copies edges sound p q m l).leaf_below);
  up_roots = λ m l. omega (arith, (between_at boards copies edges sound p q m l).root_below);
  down_leaves = λ m l. omega (arith, (between_at boards copies edges sound q p m l).leaf_below);
  down_roots = λ m l. omega (arith, (between_at boards copies edges sound q p m l).root_below);
  few = omega (arith, few_between boards copies edges sound p q, few_between boards copies edges sound q p);
}
