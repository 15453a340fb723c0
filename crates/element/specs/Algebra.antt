-- What an element type means: the operations, and the laws that every type of elements keeps.
use Rattle.std.specs.Prelude.{◌≡◌, ℕ, ◌^◌, ◌<◌, cond, nat_lt}
use Rattle.element.specs.declared.words.Words.{Words}

pub record Algebra (E : Type 0) : Type 0 where
  pub kind : ℕ
  pub used : ℕ
  pub zero : E
  pub join : E → E → E
  pub pack : E → Words
  pub unpack : Words → E

-- each word has 32 bits
abbrev pub Fits : Words → Type 0
Fits w = (w.x < 2 ^ 32) × (w.y < 2 ^ 32) × (w.z < 2 ^ 32)

-- the words with those past the used ones set to zero
abbrev pub first_words : ℕ → Words → Words
first_words n w = record { x = cond (nat_lt 0 n) w.x 0; y = cond (nat_lt 1 n) w.y 0; z = cond (nat_lt 2 n) w.z 0 }

pub record Lawful {E : Type 0} (A : Algebra E) : Type 0 where
  pub join_assoc : (a b c : E) → A.join (A.join a b) c ≡ A.join a (A.join b c)
  pub join_comm : (a b : E) → A.join a b ≡ A.join b a
  pub zero_join : (a : E) → A.join A.zero a ≡ a
  pub join_zero : (a : E) → A.join a A.zero ≡ a
  pub unpack_pack : (a : E) → A.unpack (A.pack a) ≡ a
  pub pack_unpack : (w : Words) → Fits w → A.pack (A.unpack w) ≡ first_words A.used w
