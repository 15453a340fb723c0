-- What is wrong with records that make no plan, and its numbers.
use Rattle.std.specs.Prelude.{ℕ, ◌+◌, Bool, true, cond, ◌&&◌, List, [], ◌∷◌, Some, None, Ok, Err, Option, Result}
use Rattle.plan.specs.declared.records.CopyRecord.{CopyRecord}
use Rattle.plan.specs.declared.records.Edge.{Edge}
use Rattle.plan.specs.declared.fault.PlanFault.{PlanFault}
use Rattle.plan.specs.declared.fault.PlanFault.TheVariants.{Boards, Copy, Edge as EdgeAt}
use Rattle.plan.specs.Sound.{copy_before, edge_before, copy_fits, edge_fits, boards_fit}

-- the numbers of a refusal
abbrev pub plan_numbers : PlanFault → List ℕ
plan_numbers (Boards given) = 13 ∷ given ∷ []
plan_numbers (Copy number) = 9 ∷ 0 ∷ number ∷ []
plan_numbers (EdgeAt number) = 9 ∷ 1 ∷ number ∷ []

-- the fault in an answer
abbrev pub fault_in : {X : Type 0} → Result X PlanFault → Option PlanFault
fault_in (Ok _) = None
fault_in (Err f) = Some f

-- the number of the first record that does not fit, or does not stand after the one before it;
-- the list's first record has number k, and has to pass `after`
abbrev pub first_bad : {X : Type 0} → (X → Bool) → (X → X → Bool) → (X → Bool) → List X → ℕ → Option ℕ
first_bad fits before after [] k = None
first_bad fits before after (x ∷ xs) k =
    cond (fits x && after x) (first_bad fits before (before x) xs (k + 1)) (Some k)

abbrev pub bad_copy : ℕ → List CopyRecord → Option ℕ
bad_copy boards copies = first_bad (copy_fits boards) copy_before (λ _. true) copies 0

abbrev pub bad_edge : ℕ → List CopyRecord → List Edge → Option ℕ
bad_edge boards copies edges = first_bad (edge_fits boards copies) edge_before (λ _. true) edges 0

-- the fault of the record found, or else the other
abbrev pub or_else : (ℕ → PlanFault) → Option ℕ → Option PlanFault → Option PlanFault
or_else of (Some k) other = Some (of k)
or_else of None other = other

-- the fault of these records: the board count's, or else the first bad copy's, or else the first bad edge's
abbrev pub plan_fault : ℕ → List CopyRecord → List Edge → Option PlanFault
plan_fault boards copies edges =
    cond (boards_fit boards)
    (or_else Copy (bad_copy boards copies) (or_else EdgeAt (bad_edge boards copies edges) None))
    (Some (Boards boards))
