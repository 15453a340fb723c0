-- Which frames pass at which count.
use Rattle.std.proofs.Common.{◌≡◌, ℕ, suc, ◌<◌, Bool, true, false, not, ltb, List, [], ◌∷◌, Some, None, Option, refl}
use Rattle.std.proofs.Common.{inl, inr, arith}
use mathlib.Core.Bool.{beq}
use Rattle.std.proofs.lemmas.Bool.{lt-ltb, and_parts, and_right, ltb-true, or_left, or_right}
use Rattle.std.proofs.lemmas.Bool.Decides.{nat_tests}
use Rattle.medium.specs.declared.frame.Frame.{Frame}
use Rattle.medium.specs.declared.frame.Item.{Item}
use Rattle.protocol.specs.Frames.{odd, present, has_bit, brings, tells_of, some_item}
use Rattle.protocol.proofs.Rows.{SomeFrame}

pub odd_suc : (n : ℕ) → odd (suc n) ≡ not (odd n)
odd_suc n = grind (arith, nat_tests)

beq_self : (b : Bool) → beq b b ≡ true
beq_self true = refl
beq_self false = refl

beq_not : (b : Bool) → beq b (not b) ≡ false
beq_not true = refl
beq_not false = refl

not_beq_not : (b : Bool) → not (beq (not b) b) ≡ true
not_beq_not true = refl
not_beq_not false = refl

pub beq_same : (a b : Bool) → a ≡ b → beq a b ≡ true
beq_same a b h = rw h (beq_self b)

-- the frame has no item, or one with the bit of j
abbrev pub AtBit : ℕ → Option Item → Type 0
AtBit j None = Unit {0}
AtBit j (Some x) = x.bit ≡ odd j

has_no_next_bit : (j : ℕ) (o : Option Item) → AtBit j o → has_bit (suc j) o ≡ false
has_no_next_bit j None h = refl
has_no_next_bit j (Some x) h = rw (h, odd_suc j) (beq_not (odd j))

pub not_brings_next : (n j : ℕ) (f : Frame) → AtBit j f.item → brings n (suc j) f ≡ false
not_brings_next n j f h = and_right (ltb (suc j) n) _ (has_no_next_bit j f.item h)

pub brings_it : (n j : ℕ) (f : Frame) → j < n → has_bit j f.item ≡ true → brings n j f ≡ true
brings_it n j f l h = rw (lt-ltb j n l) h

pub bit_present : (j : ℕ) (o : Option Item) → has_bit j o ≡ true → present o ≡ true
bit_present j None h = h
bit_present j (Some x) h = refl

pub brings_below : (n j : ℕ) (f : Frame) → brings n j f ≡ true → j < n
brings_below n j f h = ltb-true j n (and_parts (ltb j n) _ h).0

pub brings_item : (n j : ℕ) (f : Frame) → brings n j f ≡ true → present f.item ≡ true
brings_item n j f h = bit_present j f.item (and_parts (ltb j n) _ h).1

pub not_tells_same : (n i : ℕ) (f : Frame) → f.reply ≡ odd i → tells_of n i f ≡ false
not_tells_same n i f h = and_right (ltb i n) _ (rw (h, beq_self (odd i)))

pub tells_next : (n i : ℕ) (f : Frame) → i < n → f.reply ≡ odd (suc i) → tells_of n i f ≡ true
tells_next n i f l h = rw (lt-ltb i n l, h, odd_suc i) (not_beq_not (odd i))

-- a lane with a frame that has an item
pub some_item_from : (fs : List Frame) → SomeFrame (λ f. present f.item ≡ true) fs → some_item fs ≡ true
some_item_from [] s = absurd s
some_item_from (f ∷ fs) s = elim s [
  | inl h ↦ or_left (present f.item) _ h
  | inr k ↦ or_right (present f.item) _ (some_item_from fs k)
]
