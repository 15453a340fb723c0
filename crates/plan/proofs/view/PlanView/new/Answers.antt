-- No records are sound, and every link starts at 0.
use Rattle.std.proofs.Common.{refl}
use Rattle.std.proofs.lemmas.List.{get_or-replicate}
use Rattle.plan.proofs.view.PlanView.new.Goals as goal

pub invariant_of-result : goal.invariant_of-result
invariant_of-result c = record { sound = refl; placed = λ x b. get_or-replicate 65 x 0 0 b }
