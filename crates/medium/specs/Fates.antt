-- What becomes of the puts of a script, by number.
use Rattle.std.specs.Prelude.{ℕ, ◌+◌, ◌%◌, List, [], ◌∷◌, length, slice_index}
use Rattle.medium.specs.declared.script.Fate.{Fate}
use Rattle.medium.specs.declared.script.Fate.TheVariants.{Pass, Drop, Twice}

-- 0 passes down, 1 drops, 2 passes down twice
abbrev pub code : Fate → ℕ
code Pass = 0
code Drop = 1
code Twice = 2

-- put number m follows entry m modulo the table's length
abbrev pub script_table : List ℕ
script_table = 1 ∷ 0 ∷ 0 ∷ 2 ∷ 0 ∷ 1 ∷ 0 ∷ 0 ∷ 2 ∷ 0 ∷ 0 ∷ 1 ∷ 0 ∷ 0 ∷ 0 ∷ 2 ∷ []

abbrev pub entry : ℕ → ℕ
entry n = slice_index script_table n

-- the entry after entry n, the first after the last
abbrev pub entry_after : ℕ → ℕ
entry_after n = (n + 1) % length script_table
