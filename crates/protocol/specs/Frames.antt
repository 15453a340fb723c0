-- Frames against counts: which frame brings item j, and which tells that item i has arrived.
use Rattle.std.specs.Prelude.{ℕ, suc, ◌%◌, Bool, true, false, cond, not, ◌&&◌, ◌||◌, List, [], ◌∷◌, Some, None}
use Rattle.std.specs.Prelude.{Option, ◌==◌, nat_lt}
use Rattle.std.specs.Bool.{beq}
use Rattle.element.specs.declared.words.Words.{Words}
use Rattle.medium.specs.declared.frame.Frame.{Frame}
use Rattle.medium.specs.declared.frame.Item.{Item}

-- a count's bit
abbrev pub odd : ℕ → Bool
odd n = n % 2 == 1

abbrev pub present : Option Item → Bool
present None = false
present (Some x) = true

-- the item has the bit of the count j
abbrev pub has_bit : ℕ → Option Item → Bool
has_bit j None = false
has_bit j (Some x) = beq x.bit (odd j)

abbrev pub words_of : Option Item → Words
words_of None = record { x = 0; y = 0; z = 0 }
words_of (Some x) = x.words

-- on a link of n items, of which j were accepted, the frame brings the next
abbrev pub brings : ℕ → ℕ → Frame → Bool
brings n j f = nat_lt j n && has_bit j f.item

-- on a link of n items, of which i are known to have arrived, the frame tells of the next
abbrev pub tells_of : ℕ → ℕ → Frame → Bool
tells_of n i f = nat_lt i n && not (beq f.reply (odd i))

-- a count after frames, oldest first, each of which adds one if it passes
abbrev pub count_after : (ℕ → Frame → Bool) → ℕ → List Frame → ℕ
count_after t c [] = c
count_after t c (f ∷ fs) = count_after t (cond (t c f) (suc c) c) fs

-- what frames do, oldest first, where each that passes acts
abbrev pub acts : {X : Type 0} → (ℕ → Frame → Bool) → (ℕ → Frame → X → X) → ℕ → X → List Frame → X
acts t g c x [] = x
acts t g c x (f ∷ fs) = acts t g (cond (t c f) (suc c) c) (cond (t c f) (g c f x) x) fs

-- some frame has an item
abbrev pub some_item : List Frame → Bool
some_item [] = false
some_item (f ∷ fs) = present f.item || some_item fs
