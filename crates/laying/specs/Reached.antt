-- The vertices around a board.
use Rattle.std.specs.Prelude.{ℕ, Bool, ◌&&◌, List}
use Rattle.scene.specs.Cells.{Cell}
use Rattle.forest.specs.Forest.{any, is_corner, overlaps}

-- v is a vertex of a cell of board p or of m layers around its cells
abbrev pub is_reached : List Cell → ℕ → ℕ → ℕ → Bool
is_reached cells p m v = any (λ c. overlaps cells p m c && is_corner v c) cells
