-- The rules worked out on examples, as one table: what the rules say, and how that reads.
use Rattle.std.specs.Prelude.{◌≡◌, ℕ, List, [], ◌∷◌, ◌++◌, map, take, negsuc, codes}
use Prim.Native.String.{String}
use Rattle.std.specs.List.{flat_map}
use Rattle.element.specs.Models.{force_algebra, depth_algebra}
use Rattle.scene.specs.Cells.{Scene}
use Rattle.scene.specs.Layout.{scene_of}
use Rattle.listing.specs.Lines.{line_end}
use Rattle.protocol.specs.declared.tally.Report.TheVariants.{Settled, Awaits}
use Rattle.cabinet.specs.Programs.{HaloPage, RoughPage}
use Rattle.readings.specs.Media.{plain, rough}
use Rattle.readings.specs.Bytes.{triangles, with_first, empty_scene, cell, part_bytes, depth_bytes}
use Rattle.readings.specs.Answers.{Answer, accepted_scene, refused, totals, lists, reports, force_axis}
use Rattle.readings.specs.Answers.{check, depths, list_over, tally_over, reports_within, join_axes}

-- the two triangles; with a layer of overlap; with a third board, which owns nothing; with a vertex on no cell
abbrev pub two_triangles : Scene
two_triangles = scene_of (triangles 2 0 4)

abbrev pub overlapping : Scene
overlapping = scene_of (triangles 2 1 4)

abbrev pub third_board : Scene
third_board = scene_of (triangles 3 0 4)

abbrev pub fifth_vertex : Scene
fifth_vertex = scene_of (triangles 2 0 5)

-- one board, no vertices, no cells
abbrev pub smallest : Scene
smallest = scene_of empty_scene

-- the first triangle with two equal corners, and with a second word where a depth has one
abbrev pub equal_corners : List ℕ
equal_corners = with_first (cell 0 (1 ∷ 1 ∷ 2 ∷ []) (depth_bytes 5 ∷ depth_bytes 7 ∷ depth_bytes 1 ∷ []))

abbrev pub second_word : List ℕ
second_word = with_first (cell 0 (0 ∷ 1 ∷ 2 ∷ []) (part_bytes 5 1 ∷ depth_bytes 7 ∷ depth_bytes 1 ∷ []))

-- the lines of a listing
abbrev pub listed_lines : List String → Answer
listed_lines ls = lists (flat_map (λ l. codes l ++ line_end) ls)

-- the two triangles, run until both boards are settled and hold the totals, by the tally's line
abbrev pub settled_triangles : String → Answer
settled_triangles tally =
    listed_lines ("boards 2 overlap 0 kind 2 copies 6 edges 2"
    ∷ tally
    ∷ "0 settled"
    ∷ "0 0 5 0 0"
    ∷ "0 1 7 0 0"
    ∷ "0 2 6 0 0"
    ∷ "1 settled"
    ∷ "1 1 7 0 0"
    ∷ "1 2 6 0 0"
    ∷ "1 3 9 0 0"
    ∷ [])

abbrev pub smallest_listed : Answer
smallest_listed =
    listed_lines ("boards 1 overlap 0 kind 1 copies 0 edges 0" ∷ "turns 0 puts 0 lost 0 accepted 0" ∷ "0 settled" ∷ [])

-- the runs: `reports_within k` is what is reported after k circles, if so many are made
abbrev pub runs : List (Answer × Answer)
runs =
    (list_over depth_algebra plain two_triangles, settled_triangles "turns 8 puts 7 lost 0 accepted 4")
    ∷ (reports_within 3 plain two_triangles, reports (Settled ∷ Awaits 0 1 ∷ []))
    ∷ (reports_within 4 plain two_triangles, reports (Settled ∷ Settled ∷ []))
    ∷ (list_over depth_algebra rough two_triangles, settled_triangles "turns 12 puts 10 lost 2 accepted 4")
    ∷ (reports_within 5 rough two_triangles, reports (Settled ∷ Awaits 0 1 ∷ []))
    ∷ (reports_within 6 rough two_triangles, reports (Settled ∷ Settled ∷ []))
    ∷ (tally_over plain overlapping, listed_lines ("turns 12 puts 12 lost 0 accepted 8" ∷ []))
    ∷ (tally_over rough overlapping, listed_lines ("turns 16 puts 14 lost 3 accepted 8" ∷ []))
    ∷ (tally_over plain third_board, listed_lines ("turns 12 puts 7 lost 0 accepted 4" ∷ []))
    ∷ (tally_over rough third_board, listed_lines ("turns 18 puts 10 lost 2 accepted 4" ∷ []))
    ∷ (tally_over plain fifth_vertex, listed_lines ("turns 8 puts 7 lost 0 accepted 4" ∷ []))
    ∷ (tally_over rough fifth_vertex, listed_lines ("turns 12 puts 10 lost 2 accepted 4" ∷ []))
    ∷ (list_over force_algebra plain smallest, smallest_listed)
    ∷ (list_over force_algebra rough smallest, smallest_listed)
    ∷ []

-- the scenes: triangles are given by boards, overlap and vertices, and `negsuc n` is -1 - n
abbrev pub scenes : List (Answer × Answer)
scenes =
    (check (triangles 2 0 4), accepted_scene 6 2)
    ∷ (depths two_triangles, totals (5 ∷ 7 ∷ 6 ∷ 9 ∷ []))
    ∷ (check (triangles 2 1 4), accepted_scene 8 4)
    ∷ (check (triangles 3 0 4), accepted_scene 6 2)
    ∷ (check (triangles 2 0 5), accepted_scene 6 2)
    ∷ (check (triangles 8 0 4), accepted_scene 6 2)
    ∷ (check (triangles 9 0 4), refused (3 ∷ 4 ∷ []))
    ∷ (check equal_corners, refused (5 ∷ 16 ∷ []))
    ∷ (check second_word, refused (6 ∷ 24 ∷ []))
    ∷ (check empty_scene, accepted_scene 0 0)
    ∷ (check (empty_scene ++ 0 ∷ []), refused (7 ∷ 12 ∷ []))
    ∷ (check (take 11 empty_scene), refused (1 ∷ 10 ∷ []))
    ∷ (join_axes 2147483647 1, force_axis 2147483648 (negsuc 2147483647))
    ∷ []

-- both columns are the same
abbrev pub Readings : Type 0
Readings = map (λ r. r.0) (scenes ++ runs) ≡ map (λ r. r.1) (scenes ++ runs)

-- whatever the program may print for these bytes is listed so
abbrev pub PrintsOnly : (List ℕ → List ℕ → Type 0) → List ℕ → Answer → Type 0
PrintsOnly Page bytes listed = (page : List ℕ) → Page bytes page → lists page ≡ listed

-- the pages of the two triangles and of the smallest scene
pub record WorkedPages : Type 0 where
  pub halo_triangles : PrintsOnly HaloPage (triangles 2 0 4) (settled_triangles "turns 8 puts 7 lost 0 accepted 4")
  pub rough_triangles : PrintsOnly RoughPage (triangles 2 0 4) (settled_triangles "turns 12 puts 10 lost 2 accepted 4")
  pub halo_smallest : PrintsOnly HaloPage empty_scene smallest_listed
  pub rough_smallest : PrintsOnly RoughPage empty_scene smallest_listed
