-- What a row of flags tells, and what is counted and gathered number by number.
use Rattle.std.specs.Prelude.{◌≡◌, ℕ, zero, suc, ◌+◌, ◌<◌, Bool, false, cond, ◌||◌, List, [], ◌∷◌, ◌++◌, length, take}
use Rattle.std.specs.Prelude.{drop, Some, None, Option, slice_index_or}
use mir.Val.{bool_byte}

-- the flags below n are the test's answers
abbrev pub Tells : List Bool → ℕ → (ℕ → Bool) → Type 0
Tells row n t = (k : ℕ) → k < n → slice_index_or row k false ≡ t k

-- the numbers of a row below n are the function's values
abbrev pub Tabulates : List ℕ → ℕ → (ℕ → ℕ) → Type 0
Tabulates row n f = (k : ℕ) → k < n → slice_index_or row k 0 ≡ f k

-- some number below n passes
abbrev pub some : (ℕ → Bool) → ℕ → Bool
some t zero = false
some t (suc n) = some t n || t n

-- how many numbers below n pass
abbrev pub many : (ℕ → Bool) → ℕ → ℕ
many t zero = 0
many t (suc n) = many t n + bool_byte (t n)

-- the flag at a place of a row
abbrev pub flag_at : List Bool → ℕ → Bool
flag_at row v = slice_index_or row v false

-- there is a number, and it passes
abbrev pub passes : (ℕ → Bool) → Option ℕ → Bool
passes t None = false
passes t (Some x) = t x

-- the lists of the numbers below n, one after another
abbrev pub lists_below : {X : Type 0} → (ℕ → List X) → ℕ → List X
lists_below f zero = []
lists_below f (suc n) = lists_below f n ++ f n

-- x alone if the test passes, else nothing
abbrev pub only : {X : Type 0} → Bool → X → List X
only b x = cond b (x ∷ []) []

-- the list with ys in place of what stood from place k on
abbrev pub placed : {X : Type 0} → List X → ℕ → List X → List X
placed xs k ys = take k xs ++ (ys ++ drop (k + length ys) xs)
