-- A scene's bytes are admitted and read as the scene.
use Rattle.std.proofs.Common.{◌≡◌, ℕ, ◌+◌, ◌*◌, ◌/◌, ◌%◌, ◌<◌, ◌≤◌, true, List, [], ◌∷◌, ◌++◌, map, length, get_or}
use Rattle.std.proofs.Common.{sym, refl, ap, ◌∙◌, subst, mul_comm, arith}
use Rattle.std.specs.List.{range_with_len, flat_map, AllByRecursion}
use Rattle.std.proofs.lemmas.List.FromFn.{fill_by_all}
use Rattle.std.proofs.ByRecursion.{All-get_or, All-weaker}
use Rattle.std.proofs.lemmas.List.{length-append}
use Rattle.std.proofs.lemmas.Bool.{and_from, le-leb, eq-eqb}
use Rattle.element.specs.Kinds.{used_by}
use Rattle.scene.specs.Cells.{Cell, Scene}
use Rattle.scene.specs.Layout.{number_at, word_at, words_at, cell_at, cell_place, cell_size, corner_place}
use Rattle.scene.specs.Layout.{parts_place, scene_of, corners_of}
use Rattle.scene.specs.Read.{no_cell, no_words}
use Rattle.scene.specs.Rules.{head_of, header_rules, cell_rules, cell_record, end_rules, in_record, body_rules}
use Rattle.scene.specs.Rules.{all_hold, admits}
use Rattle.scene.specs.Written.{cell_bytes, header_bytes, scene_bytes, ProperCell, Proper}
use Rattle.scene.proofs.Counted.{get_or_counted}
use Rattle.scene.proofs.Holding.{kept_each, append_hold, hold_record, at_hold}
use Rattle.scene.proofs.Soundness.{CellKept, kept_cell}
use Rattle.scene.proofs.Standing.{Stands, moved, cut, whole, length_each, cut_each}
use Rattle.scene.proofs.Cellwise.{CellThere, length_cell, cell_there}
use Rattle.scene.proofs.Unused.{zero_past}

module _ (s : Scene) (ok : Proper (corners_of (scene_bytes s)) s) where
  abbrev b : List ℕ
  b = scene_bytes s

  abbrev k : ℕ
  k = corners_of b

  sized : AllByRecursion (λ c. length (cell_bytes c) ≡ cell_size k) s.cells
  sized =
      All-weaker (ProperCell k s.kind) (λ c. length (cell_bytes c) ≡ cell_size k)
      (λ c p. length_cell k c p.some_corners p.some_parts) s.cells ok.each_cell

  abbrev end : List ℕ
  end = 0x45 ∷ 0x4E ∷ []

  behind : Stands b 10 (flat_map cell_bytes s.cells) × Stands b (10 + length (flat_map cell_bytes s.cells)) end
  behind =
      cut b (flat_map cell_bytes s.cells) end 10
      (cut b (header_bytes s) (flat_map cell_bytes s.cells ++ end) 0 (whole b)).1

  vertices_there : number_at b 6 ≡ s.vertices
  vertices_there = omega arith

  cells_there : number_at b 8 ≡ length s.cells
  cells_there = omega arith

  end_place : 10 + length (flat_map cell_bytes s.cells) ≡ cell_place k (number_at b 8)
  end_place =
      let long = length_each cell_bytes (cell_size k) no_cell s.cells sized in
      let swap = mul_comm (cell_size k) (length s.cells) in
      ap (λ n. 10 + n) (long ∙ swap) ∙ ap (cell_place k) (sym cells_there)

  module _ (n : ℕ) (l : n < length s.cells) where
    abbrev c : Cell
    c = get_or s.cells n no_cell

    abbrev at : ℕ
    at = cell_place k n

    proper : ProperCell k s.kind c
    proper = All-get_or (ProperCell k s.kind) s.cells n no_cell l ok.each_cell

    there : CellThere k b at c
    there =
        let swap = mul_comm (cell_size k) n in
        cell_there k c proper.some_corners proper.some_parts b at
        (moved b (cell_bytes c) (10 + cell_size k * n) at (ap (λ m. 10 + m) swap)
        (cut_each cell_bytes (cell_size k) no_cell b s.cells 10 sized behind.0 n l))

    corner_is : (i : ℕ) → i < k → number_at b (corner_place at i) ≡ get_or c.corners i 0
    corner_is i m =
        sym (get_or_counted (λ j. number_at b (corner_place at j)) k i 0 m) ∙ ap (λ x. get_or x.corners i 0) there.is

    part_is : (i : ℕ) → i < k → words_at b (parts_place k at + 12 * i) ≡ get_or c.parts i no_words
    part_is i m =
        sym (get_or_counted (λ j. words_at b (parts_place k at + 12 * j)) k i no_words m)
        ∙ ap (λ x. get_or x.parts i no_words) there.is

    word_unused : (w : ℕ) → w < 3 * k → used_by s.kind ≤ w % 3 → word_at b (parts_place k at + 4 * w) ≡ 0
    word_unused w m past =
        let i = w / 3 in
        let inside : i < k = omega arith in
        let many : i < length c.parts = omega (arith, proper.some_parts) in
        let same : parts_place k at + 4 * w ≡ parts_place k at + 12 * i + 4 * (w % 3) = omega arith in
        ap (word_at b) same
        ∙ zero_past b (parts_place k at + 12 * i) (used_by s.kind) (get_or c.parts i no_words) (part_is i inside)
        (All-get_or _ c.parts i no_words many proper.unused) (w % 3) (omega arith) past

    cell_keeps : CellKept (head_of b) b at
    cell_keeps =
        let board = All-get_or (λ x. x.board < s.boards) s.cells n no_cell l ok.ranges.owned in
        let on =
        All-get_or (λ x. AllByRecursion (λ v. v < s.vertices) x.corners) s.cells n no_cell l ok.ranges.on_vertices in
        record {
          room = there.room;
          mark = there.mark;
          board = subst (λ x. x < s.boards) (sym (ap (λ x. x.board) there.is)) board;
          blank = there.blank;
          corners = λ i m.
              let many : i < length c.corners = omega (arith, proper.some_corners) in
              let below = All-get_or (λ v. v < s.vertices) c.corners i 0 many on in
              let e = corner_is i m in
              let v = vertices_there in
              omega arith;
          apart = λ i j m o e.
              proper.apart i j m o (sym (corner_is i (omega arith)) ∙ e ∙ corner_is j o);
          unused = word_unused;
        }

  pub written_read : scene_of b ≡ s
  written_read =
      let f : ℕ → Cell = λ n. cell_at k b (cell_place k n) in
      let cells =
      ap (λ n. map f (range_with_len 0 n)) cells_there
      ∙ sym (fill_by_all f s.cells (length s.cells) no_cell refl (λ n l. sym (there n l).is)) in
      λ i. record
      { kind = s.kind; boards = s.boards; overlap = s.overlap; vertices = vertices_there i; cells = cells i }

  header_holds : all_hold (header_rules b) ≡ true
  header_holds =
      let r = ok.ranges in
      let v = vertices_there in
      let n = cells_there in
      kept_each (header_rules b) (
        le-leb 10 (length b) (omega arith),
        (
          refl,
          (
            refl,
            (
              r.kind_known,
              (
                and_from _ _ (le-leb 1 s.boards r.some_board) (le-leb s.boards 8 r.few_boards),
                (
                  le-leb s.overlap 4 r.few_layers,
                  (
                    le-leb (number_at b 6) 1024 (subst (λ x. x ≤ 1024) (sym v) r.few_vertices),
                    (le-leb (number_at b 8) 1024 (subst (λ x. x ≤ 1024) (sym n) r.few_cells), tt),
                  ),
                ),
              ),
            ),
          ),
        ),
      )

  end_holds : all_hold (end_rules b (cell_place k (number_at b 8))) ≡ true
  end_holds =
      let at = cell_place k (number_at b 8) in
      let h = moved b end (10 + length (flat_map cell_bytes s.cells)) at end_place behind.1 in
      let long = length-append (flat_map cell_bytes s.cells) end in
      let place = end_place in
      kept_each (end_rules b at) (
        le-leb (at + 2) (length b) (omega arith),
        (and_from _ _ (eq-eqb _ _ h.1) (eq-eqb _ _ h.2.1), (le-leb (length b) (at + 2) (omega arith), tt)),
      )

  pub written_admitted : admits b ≡ true
  written_admitted =
      let h = head_of b in
      let n = number_at b 8 in
      let cells = flat_map (cell_record h b) (range_with_len 0 n) in
      let last = in_record (n + 1) (end_rules b (cell_place k n)) in
      append_hold (in_record 0 (header_rules b)) (body_rules h b) (hold_record 0 (header_rules b) ∙ header_holds)
      (append_hold cells last
      (at_hold (cell_record h b) 0 n
      (λ i l m.
      let count = cells_there in
      let below : i < length s.cells = omega arith in
      hold_record (i + 1) (cell_rules h b (cell_place k i))
      ∙ kept_cell h b (cell_place k i) (cell_keeps i below)))
      (hold_record (n + 1) (end_rules b (cell_place k n)) ∙ end_holds))
