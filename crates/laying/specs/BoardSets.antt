-- Sets of boards, and rows of them.
use Rattle.std.specs.Prelude.{◌≡◌, ℕ, ◌<◌, Bool, List, slice_index_or}
use Rattle.element.specs.Models.{bit}
use Rattle.laying.specs.declared.board_set.BoardSet.{BoardSet}

-- board p is in the set
abbrev pub has : BoardSet → ℕ → Bool
has s p = bit s.bits p

-- the set at a place of a row
abbrev pub board_set_at : List BoardSet → ℕ → BoardSet
board_set_at sets k = slice_index_or sets k (record { bits = 0 })

-- board p is in the set at a place below n if it passes the test there
abbrev pub TellsAll : List BoardSet → ℕ → (ℕ → ℕ → Bool) → Type 0
TellsAll sets n t = (p k : ℕ) → k < n → has (board_set_at sets k) p ≡ t p k
