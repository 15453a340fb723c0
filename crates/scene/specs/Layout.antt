-- Where things stand in the bytes of a scene, and what they say there. Numbers have their low byte first.
use Rattle.std.specs.Prelude.{ℕ, ◌+◌, ◌*◌, cond, List, [], ◌∷◌, map, Some, None, Option, nat_lt, slice_index}
use Rattle.std.specs.List.{range_with_len}
use Rattle.element.specs.declared.words.Words.{Words}
use Rattle.scene.specs.Cells.{Cell, Scene}

-- the byte at a place, or 0 past the end
abbrev pub byte_at : List ℕ → ℕ → ℕ
byte_at b at = slice_index b at

abbrev pub number_at : List ℕ → ℕ → ℕ
number_at b at = byte_at b at + 256 * byte_at b (at + 1)

abbrev pub word_at : List ℕ → ℕ → ℕ
word_at b at = number_at b at + 65536 * number_at b (at + 2)

abbrev pub words_at : List ℕ → ℕ → Words
words_at b at = record { x = word_at b at; y = word_at b (at + 4); z = word_at b (at + 8) }

-- the marks before the header, a cell and the end: the letters SC, CE and EN
abbrev pub header_mark : List ℕ
header_mark = 0x53 ∷ 0x43 ∷ []

abbrev pub cell_mark : List ℕ
cell_mark = 0x43 ∷ 0x45 ∷ []

abbrev pub end_mark : List ℕ
end_mark = 0x45 ∷ 0x4E ∷ []

-- a cell of k corners: mark, board, zero byte, k corners of 2 bytes, k contributions of 12
abbrev pub cell_size : ℕ → ℕ
cell_size k = 4 + 14 * k

-- where cell number n begins, behind the header's 10 bytes
abbrev pub cell_place : ℕ → ℕ → ℕ
cell_place k n = 10 + n * cell_size k

-- where corner number i of the cell at a place stands
abbrev pub corner_place : ℕ → ℕ → ℕ
corner_place at i = at + 4 + 2 * i

-- where the contributions of a cell of k corners begin
abbrev pub parts_place : ℕ → ℕ → ℕ
parts_place k at = at + 4 + 2 * k

-- where word number w of the contributions of a cell of k corners stands
abbrev pub word_place : ℕ → ℕ → ℕ → ℕ
word_place k at w = parts_place k at + 4 * w

abbrev pub cell_at : ℕ → List ℕ → ℕ → Cell
cell_at k b at =
    record {
      board = byte_at b (at + 2);
      corners = map (λ i. number_at b (corner_place at i)) (range_with_len 0 k);
      parts = map (λ i. words_at b (parts_place k at + 12 * i)) (range_with_len 0 k);
    }

abbrev pub scene_with : ℕ → List ℕ → Scene
scene_with k b =
    record {
      kind = byte_at b 3;
      boards = byte_at b 4;
      overlap = byte_at b 5;
      vertices = number_at b 6;
      cells = map (λ n. cell_at k b (cell_place k n)) (range_with_len 0 (number_at b 8));
    }

-- how many corners the cells have: three in version 1, the only one
abbrev pub corners_of : List ℕ → ℕ
corners_of b = 3

-- the scene that bytes say
abbrev pub scene_of : List ℕ → Scene
scene_of b = scene_with (corners_of b) b

-- where the end stands, behind the last cell
abbrev pub end_at : List ℕ → ℕ
end_at b = cell_place (corners_of b) (number_at b 8)

-- where cell number c begins, if the header counts so many
abbrev pub start_of : List ℕ → ℕ → Option ℕ
start_of b c = cond (nat_lt c (number_at b 8)) (Some (cell_place (corners_of b) c)) None
