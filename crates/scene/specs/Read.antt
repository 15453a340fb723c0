-- What a scene's readers answer: absent where there is no such cell or corner.
use Rattle.std.specs.Prelude.{ℕ, [], Some, None, Option}
use Rattle.std.specs.List.{slice_get}
use Rattle.element.specs.declared.words.Words.{Words}
use Rattle.scene.specs.Cells.{Cell, Scene}

-- of an absent cell nothing is there
abbrev pub within : {X : Type 0} → (Cell → Option X) → Option Cell → Option X
within f None = None
within f (Some c) = f c

-- the board that owns cell number c
abbrev pub board_of : Scene → ℕ → Option ℕ
board_of s c = within (λ x. Some x.board) (slice_get s.cells c)

-- the vertex at corner number k of cell number c
abbrev pub corner_of : Scene → ℕ → ℕ → Option ℕ
corner_of s c k = within (λ x. slice_get x.corners k) (slice_get s.cells c)

-- what cell number c contributes at its corner number k
abbrev pub part_of : Scene → ℕ → ℕ → Option Words
part_of s c k = within (λ x. slice_get x.parts k) (slice_get s.cells c)

-- what `get_or` answers past the end
abbrev pub no_words : Words
no_words = record { x = 0; y = 0; z = 0 }

abbrev pub no_cell : Cell
no_cell = record { board = 0; corners = []; parts = [] }
