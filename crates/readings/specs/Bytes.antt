-- Bytes of small scenes, put together from their records.
use Rattle.std.specs.Prelude.{ℕ, List, [], ◌∷◌, ◌++◌}
use Rattle.std.specs.List.{flat_map}

-- a number below 256 in two bytes, and as a word in four
abbrev pub two : ℕ → List ℕ
two n = n ∷ 0 ∷ []

abbrev pub word : ℕ → List ℕ
word n = n ∷ 0 ∷ 0 ∷ 0 ∷ []

-- mark, version, kind, boards, overlap, vertices, cells
abbrev pub header : ℕ → ℕ → ℕ → ℕ → ℕ → List ℕ
header kind boards overlap vertices cells =
    0x53 ∷ 0x43 ∷ 1 ∷ kind ∷ boards ∷ overlap ∷ (two vertices ++ two cells)

-- a contribution by its first two words
abbrev pub part_bytes : ℕ → ℕ → List ℕ
part_bytes first second = word first ++ (word second ++ word 0)

-- mark, board, a zero byte, the corners, the contributions
abbrev pub cell : ℕ → List ℕ → List (List ℕ) → List ℕ
cell board corners parts =
    0x43 ∷ 0x45 ∷ board ∷ 0 ∷ (flat_map two corners ++ flat_map (λ p. p) parts)

abbrev pub end : List ℕ
end = 0x45 ∷ 0x4E ∷ []

-- a contribution that is a depth
abbrev pub depth_bytes : ℕ → List ℕ
depth_bytes value = part_bytes value 0

-- the two triangles: board 0 owns the first, board 1 the second, and they share the vertices 1 and 2
abbrev pub first_triangle : List ℕ
first_triangle = cell 0 (0 ∷ 1 ∷ 2 ∷ []) (depth_bytes 5 ∷ depth_bytes 7 ∷ depth_bytes 1 ∷ [])

abbrev pub second_triangle : List ℕ
second_triangle = cell 1 (1 ∷ 3 ∷ 2 ∷ []) (depth_bytes 4 ∷ depth_bytes 9 ∷ depth_bytes 6 ∷ [])

-- a first cell and the second triangle, by boards, overlap and vertices
abbrev pub two_cells : ℕ → ℕ → ℕ → List ℕ → List ℕ
two_cells boards overlap vertices first = header 2 boards overlap vertices 2 ++ (first ++ (second_triangle ++ end))

abbrev pub triangles : ℕ → ℕ → ℕ → List ℕ
triangles boards overlap vertices = two_cells boards overlap vertices first_triangle

abbrev pub with_first : List ℕ → List ℕ
with_first first = two_cells 2 0 4 first

-- one board, no vertices, no cells
abbrev pub empty_scene : List ℕ
empty_scene = 0x53 ∷ 0x43 ∷ 1 ∷ 1 ∷ 1 ∷ 0 ∷ 0 ∷ 0 ∷ 0 ∷ 0 ∷ 0x45 ∷ 0x4E ∷ []
