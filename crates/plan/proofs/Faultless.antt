-- Records have a fault exactly if they make no plan.
use Rattle.std.proofs.Common.{◌≡◌, ℕ, not, ◌&&◌, List, is_some, Some, None, Option, refl, inl, inr}
use Rattle.std.proofs.lemmas.Bool.{cases_Bool}
use Rattle.plan.specs.declared.records.CopyRecord.{CopyRecord}
use Rattle.plan.specs.declared.records.Edge.{Edge}
use Rattle.plan.specs.declared.fault.PlanFault.TheVariants.{Copy, Edge as EdgeAt}
use Rattle.plan.specs.Sound.{copy_before, edge_before, copy_fits, edge_fits, boards_fit, sound_plan}
use Rattle.plan.specs.Faults.{or_else, plan_fault}
use Rattle.plan.proofs.Breaks.{sound_is_unbroken}

neither_found : (copy edge : Option ℕ) → (not (is_some copy) && not (is_some edge))
    ≡ not (is_some (or_else Copy copy (or_else EdgeAt edge None)))
neither_found (Some k) edge = refl
neither_found None (Some k) = refl
neither_found None None = refl

pub sound_is_faultless : (boards : ℕ) (copies : List CopyRecord) (edges : List Edge)
    → sound_plan boards copies edges ≡ not (is_some (plan_fault boards copies edges))
sound_is_faultless boards copies edges = elim (cases_Bool (boards_fit boards)) [
  | inl fit ↦ rw (
    fit,
    sound_is_unbroken (copy_fits boards) copy_before copies,
    sound_is_unbroken (edge_fits boards copies) edge_before edges,
  ) (neither_found _ _)
  | inr unfit ↦ rw unfit
]
