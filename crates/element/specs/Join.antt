-- Joins of many elements.
use Rattle.std.specs.Prelude.{ℕ, zero, suc, List, [], ◌∷◌}
use Rattle.element.specs.Algebra.{Algebra}

-- the join of a list, or else zero
abbrev pub join_all : {E : Type 0} → Algebra E → List E → E
join_all A [] = A.zero
join_all A (x ∷ xs) = A.join x (join_all A xs)

-- the join of f at 0, 1 and so on below n
abbrev pub join_below : {E : Type 0} → Algebra E → ℕ → (ℕ → E) → E
join_below A zero f = A.zero
join_below A (suc n) f = A.join (join_below A n f) (f n)
