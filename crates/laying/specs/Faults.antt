-- The numbers that stand for a refused laying.
use Rattle.std.specs.Prelude.{ℕ, List, [], ◌∷◌}
use Rattle.laying.specs.declared.fault.LayFault.{LayFault}
use Rattle.laying.specs.declared.fault.LayFault.TheVariants.{Copies, Edges}

-- 8, which records were too few (0: copies, 1: edges), and the length needed
abbrev pub lay_numbers : LayFault → List ℕ
lay_numbers (Copies needed) = 8 ∷ 0 ∷ needed ∷ []
lay_numbers (Edges needed) = 8 ∷ 1 ∷ needed ∷ []
