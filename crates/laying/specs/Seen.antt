-- The cells that a view shows, by number.
use Rattle.std.specs.Prelude.{◌≡◌, ℕ, ◌<◌, List, length, slice_index_or}
use Rattle.scene.specs.Cells.{Cell, Scene}
use Rattle.scene.specs.Read.{no_cell}
use Rattle.scene.specs.Views.{viewed}
use Rattle.scene.specs.declared.view.SceneView.{SceneView}
use Rattle.laying.specs.Tables.{row}

-- cell number c
abbrev pub cell_numbered : List Cell → ℕ → Cell
cell_numbered cs c = slice_index_or cs c no_cell

-- cell number c of the scene that a view shows
abbrev pub cell_of : SceneView → ℕ → Cell
cell_of v c = cell_numbered (viewed v).cells c

-- a table of the corners of all cells
pub record ReadFrom (s : Scene) (corners : List (List ℕ)) : Type 0 where
  pub all : length corners ≡ length s.cells
  pub each : (c : ℕ) → c < length s.cells → row corners c ≡ (cell_numbered s.cells c).corners
