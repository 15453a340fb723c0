-- The first and the last of a refusal's numbers, which every layer lists for each of its faults.
use Rattle.std.specs.Prelude.{ℕ, List, [], ◌∷◌}

abbrev pub first_number : List ℕ → ℕ
first_number [] = 0
first_number (x ∷ xs) = x

abbrev pub last_number : List ℕ → ℕ
last_number [] = 0
last_number (x ∷ []) = x
last_number (x ∷ y ∷ ys) = last_number (y ∷ ys)
