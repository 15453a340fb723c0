-- The numbers of a refusal: those of the fault that some layer met.
use Rattle.std.specs.Prelude.{List, ℕ}
use Rattle.scene.specs.Faults.{fault_numbers}
use Rattle.laying.specs.Faults.{lay_numbers}
use Rattle.plan.specs.Faults.{plan_numbers}
use Rattle.protocol.specs.Faults.{run_numbers}
use Rattle.refusals.specs.declared.refusal.Refusal.{Refusal}
use Rattle.refusals.specs.declared.refusal.Refusal.TheVariants.{Scene, Lay, Plan, Run}

abbrev pub refusal_numbers : Refusal → List ℕ
refusal_numbers (Scene f) = fault_numbers f
refusal_numbers (Lay f) = lay_numbers f
refusal_numbers (Plan f) = plan_numbers f
refusal_numbers (Run f) = run_numbers f
