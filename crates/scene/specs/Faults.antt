-- The numbers sent back for a scene's fault: which fault it is, and its place.
use Rattle.std.specs.Prelude.{ℕ, List, [], ◌∷◌}
use Rattle.scene.specs.declared.fault.RecordFault.{RecordFault}
use Rattle.scene.specs.declared.fault.RecordFault.TheVariants.{Short, Mark, Header, Cell, Corners, Word, Trailing}
use Rattle.scene.specs.declared.fault.SceneFault.{SceneFault}

abbrev pub record_numbers : RecordFault → List ℕ
record_numbers (Short place) = 1 ∷ place ∷ []
record_numbers (Mark place) = 2 ∷ place ∷ []
record_numbers (Header place) = 3 ∷ place ∷ []
record_numbers (Cell place) = 4 ∷ place ∷ []
record_numbers (Corners place) = 5 ∷ place ∷ []
record_numbers (Word place) = 6 ∷ place ∷ []
record_numbers (Trailing place) = 7 ∷ place ∷ []

abbrev pub fault_numbers : SceneFault → List ℕ
fault_numbers f = record_numbers f.fault
