-- The bytes of a scene, and which scenes have bytes.
use Rattle.std.specs.Prelude.{◌≡◌, ℕ, ◌/◌, ◌%◌, ◌<◌, List, [], ◌∷◌, ◌++◌, length, ◌≢◌, slice_index}
use Rattle.std.specs.List.{flat_map, AllByRecursion}
use Rattle.element.specs.Algebra.{Fits, first_words}
use Rattle.element.specs.Kinds.{used_by}
use Rattle.element.specs.declared.words.Words.{Words}
use Rattle.scene.specs.Cells.{Cell, Scene, Sound}
use Rattle.scene.specs.Layout.{scene_of, header_mark, cell_mark, end_mark}

-- low byte first
abbrev pub two_bytes : ℕ → List ℕ
two_bytes n = n % 256 ∷ n / 256 ∷ []

abbrev pub four_bytes : ℕ → List ℕ
four_bytes n = two_bytes (n % 65536) ++ two_bytes (n / 65536)

abbrev pub words_bytes : Words → List ℕ
words_bytes w = four_bytes w.x ++ (four_bytes w.y ++ four_bytes w.z)

-- mark, board, a zero byte, the corners and a contribution for each
abbrev pub cell_bytes : Cell → List ℕ
cell_bytes c =
    cell_mark ++ c.board ∷ 0 ∷ (flat_map two_bytes c.corners ++ flat_map words_bytes c.parts)

-- mark, version, and what the scene says of itself
abbrev pub header_bytes : Scene → List ℕ
header_bytes s =
    header_mark ++ 1 ∷ s.kind ∷ s.boards ∷ s.overlap ∷ (two_bytes s.vertices ++ two_bytes (length s.cells))

-- a header, the cells, an end mark
abbrev pub scene_bytes : Scene → List ℕ
scene_bytes s = header_bytes s ++ (flat_map cell_bytes s.cells ++ end_mark)

-- a cell of k corners that are all different, with words of 32 bits, and zero past those that the kind uses
pub record ProperCell (k kind : ℕ) (c : Cell) : Type 0 where
  pub some_corners : length c.corners ≡ k
  pub some_parts : length c.parts ≡ k
  pub apart : (i j : ℕ) → i < j → j < k → slice_index c.corners i ≢ slice_index c.corners j
  pub fit : AllByRecursion Fits c.parts
  pub unused : AllByRecursion (λ w. first_words (used_by kind) w ≡ w) c.parts

-- a scene within its ranges, whose cells have k corners
pub record Proper (k : ℕ) (s : Scene) : Type 0 where
  pub ranges : Sound s
  pub each_cell : AllByRecursion (ProperCell k s.kind) s.cells

-- bytes are those of the scene s, whose cells have three corners
abbrev pub Writes : List ℕ → Scene → Type 0
Writes b s = Proper 3 s × (b ≡ scene_bytes s)

-- bytes are those of some scene
abbrev pub Written : List ℕ → Type 0
Written b = (s : Scene) × Writes b s

-- of whichever scene they are, it is the one that is read from them
abbrev pub ReadsBack : List ℕ → Type 0
ReadsBack b = (s : Scene) → Writes b s → scene_of b ≡ s
