-- What the three element types mean.
use Rattle.std.specs.Prelude.{◌≡◌, ℕ, ◌+◌, ◌/◌, ◌%◌, ◌^◌, ◌<◌, max, Bool, ◌||◌, ◌+ℤ◌, ◌==◌, bit_or}
use Rattle.std.proofs.Common.{to_z, arith}
use Rattle.std.specs.Int.{int_wrap, w32}
use Rattle.element.specs.Algebra.{Algebra}
use Rattle.element.specs.declared.words.Words.{Words}
use Rattle.element.specs.declared.force.Force.{Force}
use Rattle.element.specs.declared.depth.Depth.{Depth}
use Rattle.element.specs.declared.tags.Tags.{Tags}

abbrev pub words : ℕ → ℕ → ℕ → Words
words a b c = record { x = a; y = b; z = c }

-- an axis stays within its word: what passes it is cut off
abbrev pub axis : ℕ → ℕ
axis n = n % 2 ^ 32

pub axis_fits : (n : ℕ) → axis n < 2 ^ 32
axis_fits n = omega arith

-- with a sign: the sum of two words, brought back between -2^31 and 2^31 - 1
abbrev pub Adds : ℕ → ℕ → ℕ → Type 0
Adds a b r = to_z w32 r ≡ int_wrap w32 (to_z w32 a +ℤ to_z w32 b)

abbrev pub Sum : Force → Force → Force → Type 0
Sum a b r = Adds a.x b.x r.x × Adds a.y b.y r.y × Adds a.z b.z r.z

abbrev pub force : ℕ → ℕ → ℕ → Force
force a b c = record { x = axis a; y = axis b; z = axis c; fits = (axis_fits a, axis_fits b, axis_fits c) }

-- forces add up along each axis
abbrev pub force_algebra : Algebra Force
force_algebra = record {
  kind = 1;
  used = 3;
  zero = force 0 0 0;
  join = λ a b. force (a.x + b.x) (a.y + b.y) (a.z + b.z);
  pack = λ a. words a.x a.y a.z;
  unpack = λ w. force w.x w.y w.z;
}

abbrev pub depth : ℕ → Depth
depth n = record { value = n }

-- the larger of two depths stands
abbrev pub depth_algebra : Algebra Depth
depth_algebra = record {
  kind = 2;
  used = 1;
  zero = depth 0;
  join = λ a b. depth (max a.value b.value);
  pack = λ a. words a.value 0 0;
  unpack = λ w. depth w.x;
}

abbrev pub tags : ℕ → ℕ → Tags
tags a b = record { low = a; high = b }

-- bit k of a word
abbrev pub bit : ℕ → ℕ → Bool
bit n k = n / 2 ^ k % 2 == 1

-- a tag is in the union of two sets exactly if it is in either
-- (the low word has tags 0 to 31, the high word 32 to 63)
abbrev pub Union : Tags → Tags → Tags → Type 0
Union a b r = (k : ℕ)
    → (bit r.low k ≡ (bit a.low k || bit b.low k))
    × (bit r.high k ≡ (bit a.high k || bit b.high k))

-- sets of tags are united word by word
abbrev pub tags_algebra : Algebra Tags
tags_algebra = record {
  kind = 3;
  used = 2;
  zero = tags 0 0;
  join = λ a b. tags (bit_or a.low b.low) (bit_or a.high b.high);
  pack = λ a. words a.low a.high 0;
  unpack = λ w. tags w.x w.y;
}
