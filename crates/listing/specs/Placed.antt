-- Bytes in the place of as many others.
use Rattle.std.specs.Prelude.{ℕ, ◌+◌, List, ◌++◌, length, take, drop}

-- `ys` in the place of as many elements of `xs`, from `at` on
abbrev pub placed : {A : Type 0} → List A → ℕ → List A → List A
placed xs at ys = take at xs ++ (ys ++ drop (at + length ys) xs)
