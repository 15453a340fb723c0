-- What the readers of a cell answer, from where the cell begins.
use Rattle.std.proofs.Common.{◌≡◌, ℕ, ◌+◌, ◌*◌, ◌<◌, ◌≤◌, List, length, get_or, Some, None, Option, sym, ap, ◌∙◌, inl}
use Rattle.std.proofs.Common.{inr}
use Rattle.std.specs.List.{slice_get}
use Rattle.std.proofs.lemmas.Option.{slice_get-get_or}
use Rattle.std.proofs.lemmas.Bool.{cases_lt, cond-true, cond-false, lt-ltb, le-ltb}
use Rattle.scene.specs.Cells.{Cell, Scene}
use Rattle.scene.specs.Layout.{byte_at, number_at, words_at, corners_of, cell_at, cell_place}
use Rattle.scene.specs.Layout.{corner_place, parts_place, scene_of, start_of}
use Rattle.scene.specs.Read.{within, board_of, corner_of, part_of, no_cell, no_words}
use Rattle.scene.proofs.Counted.{nth_counted, nth_uncounted}

-- the cell with a number, made from where it begins
abbrev cell_from : List ℕ → Option ℕ → Option Cell
cell_from b None = None
cell_from b (Some at) = Some (cell_at (corners_of b) b at)

module _ (b : List ℕ) (c : ℕ) where
  nth_cell : slice_get (scene_of b).cells c ≡ cell_from b (start_of b c)
  nth_cell =
      let k = corners_of b in
      let f : ℕ → Cell = λ n. cell_at k b (cell_place k n) in
      let n = number_at b 8 in
      elim (cases_lt c n) [
        | inl h ↦ nth_counted f n c h ∙ sym (ap (cell_from b) (cond-true _ _ _ (lt-ltb c n h)))
        | inr h ↦ nth_uncounted f n c h ∙ sym (ap (cell_from b) (cond-false _ _ _ (le-ltb c n h)))
      ]

  pub absent : {X : Type 0} (f : Cell → Option X) → None ≡ start_of b c
      → None ≡ within f (slice_get (scene_of b).cells c)
  absent f h = sym (ap (within f) (nth_cell ∙ ap (cell_from b) (sym h)))

  module _ (at : ℕ) (h : Some at ≡ start_of b c) where
    pub present : {X : Type 0} (f : Cell → Option X)
        → f (cell_at (corners_of b) b at) ≡ within f (slice_get (scene_of b).cells c)
    present f = sym (ap (within f) (nth_cell ∙ ap (cell_from b) (sym h)))

    pub board_read : Some (byte_at b (at + 2)) ≡ board_of (scene_of b) c
    board_read = present (λ x. Some x.board)

    pub corner_read : (k : ℕ) → k < corners_of b → Some (number_at b (corner_place at k)) ≡ corner_of (scene_of b) c k
    corner_read k l =
        sym (nth_counted (λ i. number_at b (corner_place at i)) (corners_of b) k l)
        ∙ present (λ x. slice_get x.corners k)

    pub corner_past : (k : ℕ) → corners_of b ≤ k → None ≡ corner_of (scene_of b) c k
    corner_past k l =
        sym (nth_uncounted (λ i. number_at b (corner_place at i)) (corners_of b) k l)
        ∙ present (λ x. slice_get x.corners k)

    pub part_read : (k : ℕ) → k < corners_of b
        → Some (words_at b (parts_place (corners_of b) at + 12 * k)) ≡ part_of (scene_of b) c k
    part_read k l =
        sym (nth_counted (λ i. words_at b (parts_place (corners_of b) at + 12 * i)) (corners_of b) k l)
        ∙ present (λ x. slice_get x.parts k)

    pub part_past : (k : ℕ) → corners_of b ≤ k → None ≡ part_of (scene_of b) c k
    part_past k l =
        sym (nth_uncounted (λ i. words_at b (parts_place (corners_of b) at + 12 * i)) (corners_of b) k l)
        ∙ present (λ x. slice_get x.parts k)

-- for callers: what the readers answer of a cell and a corner that are there
module _ (s : Scene) (c : ℕ) where
  module _ (h : c < length s.cells) where
    pub board_some : board_of s c ≡ Some (get_or s.cells c no_cell).board
    board_some = ap (within (λ x. Some x.board)) (slice_get-get_or s.cells c no_cell h)

    pub corner_some : (k : ℕ) → k < length (get_or s.cells c no_cell).corners
        → corner_of s c k ≡ Some (get_or (get_or s.cells c no_cell).corners k 0)
    corner_some k l =
        ap (within (λ x. slice_get x.corners k)) (slice_get-get_or s.cells c no_cell h)
        ∙ slice_get-get_or (get_or s.cells c no_cell).corners k 0 l

    pub part_some : (k : ℕ) → k < length (get_or s.cells c no_cell).parts
        → part_of s c k ≡ Some (get_or (get_or s.cells c no_cell).parts k no_words)
    part_some k l =
        ap (within (λ x. slice_get x.parts k)) (slice_get-get_or s.cells c no_cell h)
        ∙ slice_get-get_or (get_or s.cells c no_cell).parts k no_words l
