-- Bytes that are admitted are those of the scene that is read from them.
use Rattle.std.proofs.Common.{◌≡◌, ℕ, ◌+◌, ◌*◌, ◌%◌, ◌<◌, true, List, [], ◌∷◌, ◌++◌, length, sym, refl, ap, ◌∙◌}
use Rattle.std.proofs.Common.{eqb, subst, mul_comm, arith}
use Rattle.std.specs.List.{flat_map, AllByRecursion}
use Rattle.std.proofs.lemmas.List.{length-append}
use Rattle.std.proofs.lemmas.Bool.{and_parts, leb-true, eqb-true}
use Rattle.element.specs.Algebra.{Fits, first_words}
use Rattle.element.specs.Kinds.{used_by}
use Rattle.scene.specs.Cells.{Cell}
use Rattle.scene.specs.Layout.{byte_at, number_at, word_at, words_at, cell_at, cell_place, cell_size, corner_place}
use Rattle.scene.specs.Layout.{parts_place, scene_of, corners_of}
use Rattle.scene.specs.Read.{no_cell}
use Rattle.scene.specs.Rules.{admits}
use Rattle.scene.specs.Written.{two_bytes, cell_bytes, header_bytes, scene_bytes, ProperCell, Proper}
use Rattle.scene.proofs.Counted.{get_or_counted}
use Rattle.scene.proofs.Soundness.{all_made, made_length, header_kept, end_kept, cell_fine, sound}
use Rattle.scene.proofs.Standing.{Stands, moved, glue, same_bytes, length_each, glue_each, number_stands, word_small}
use Rattle.scene.proofs.Cellwise.{length_cell, cell_stands}
use Rattle.scene.proofs.Unused.{kept_same}

module _ (b : List ℕ) (small : (i : ℕ) → byte_at b i < 256) (ok : admits b ≡ true) where
  abbrev k : ℕ
  k = corners_of b

  abbrev count : ℕ
  count = number_at b 8

  abbrev read : ℕ → Cell
  read n = cell_at k b (cell_place k n)

  module _ (n : ℕ) (l : n < count) where
    abbrev at : ℕ
    at = cell_place k n

    some_corners : length (read n).corners ≡ k
    some_corners = made_length (λ j. number_at b (corner_place at j)) k

    some_parts : length (read n).parts ≡ k
    some_parts = made_length (λ j. words_at b (parts_place k at + 12 * j)) k

    proper_cell : ProperCell k (byte_at b 3) (read n)
    proper_cell =
        let fine = cell_fine b ok n l in
        let corner : ℕ → ℕ = λ j. number_at b (corner_place at j) in
        let used = used_by (byte_at b 3) in
        record {
          some_corners = some_corners;
          some_parts = some_parts;
          apart = λ i j m o e.
              let below : i < k = omega arith in
              fine.apart i j m o (sym (get_or_counted corner k i 0 below) ∙ e ∙ get_or_counted corner k j 0 o);
          fit = all_made Fits (λ j. words_at b (parts_place k at + 12 * j)) k
              (λ j m. (word_small b small _, word_small b small _, word_small b small _));
          unused = all_made (λ w. first_words used w ≡ w) (λ j. words_at b (parts_place k at + 12 * j)) k
              (λ j m. kept_same b (parts_place k at + 12 * j) used
              (λ i o past.
              let which : (3 * j + i) % 3 ≡ i = omega arith in
              let same : parts_place k at + 12 * j + 4 * i ≡ parts_place k at + 4 * (3 * j + i) = omega arith in
              ap (word_at b) same ∙ fine.unused (3 * j + i) (omega arith) (omega arith)));
        }

  pub read_proper : Proper k (scene_of b)
  read_proper =
      record { ranges = sound b ok; each_cell = all_made (ProperCell k (byte_at b 3)) read count proper_cell }

  sized : AllByRecursion (λ c. length (cell_bytes c) ≡ cell_size k) (scene_of b).cells
  sized =
      all_made (λ c. length (cell_bytes c) ≡ cell_size k) read count
      (λ n l. length_cell k (read n) (some_corners n l) (some_parts n l))

  long : length (flat_map cell_bytes (scene_of b).cells) ≡ count * cell_size k
  long =
      length_each cell_bytes (cell_size k) no_cell (scene_of b).cells sized
      ∙ ap (λ n. cell_size k * n) (made_length read count)
      ∙ mul_comm (cell_size k) count

  header_stands : Stands b 0 (header_bytes (scene_of b))
  header_stands =
      let h = header_kept b ok in
      let room = leb-true 10 (length b) h.0 in
      let mark = and_parts (eqb (byte_at b 0) 0x53) (eqb (byte_at b 1) 0x43) h.1.0 in
      let cells =
      subst (λ n. Stands b 8 (two_bytes n)) (sym (made_length read count)) (number_stands b small 8 room) in
      let numbers = glue b (two_bytes (number_at b 6)) (two_bytes (length (scene_of b).cells)) 6
      (number_stands b small 6 (omega arith)) cells in (
        omega arith,
        eqb-true _ _ mark.0,
        (
          omega arith,
          eqb-true _ _ mark.1,
          (
            omega arith,
            eqb-true _ _ h.1.1.0,
            (omega arith, refl, (omega arith, refl, (omega arith, refl, numbers))),
          ),
        ),
      )

  cells_stand : Stands b 10 (flat_map cell_bytes (scene_of b).cells)
  cells_stand =
      let many = made_length read count in
      glue_each cell_bytes (cell_size k) no_cell b (scene_of b).cells 10 sized
      (λ n l.
      let below : n < count = omega arith in
      let fine = cell_fine b ok n below in
      let swap = mul_comm n (cell_size k) in
      subst (λ c. Stands b (10 + cell_size k * n) (cell_bytes c)) (sym (get_or_counted read count n no_cell below))
      (moved b (cell_bytes (read n)) (cell_place k n) (10 + cell_size k * n) (ap (λ m. 10 + m) swap)
      (cell_stands b small k (cell_place k n) fine.room fine.mark fine.blank)))

  pub read_written : b ≡ scene_bytes (scene_of b)
  read_written =
      let e = end_kept b ok in
      let room = leb-true _ _ e.0 in
      let most = leb-true _ _ e.1.1.0 in
      let mark = and_parts _ _ e.1.0 in
      let cells = flat_map cell_bytes (scene_of b).cells in
      let end : List ℕ = 0x45 ∷ 0x4E ∷ [] in
      let size = long in
      let all = length-append cells end in
      let ends : Stands b (cell_place k count) end =
      (omega arith, eqb-true _ _ mark.0, (omega arith, eqb-true _ _ mark.1, tt)) in
      same_bytes b (scene_bytes (scene_of b)) (omega arith)
      (glue b (header_bytes (scene_of b)) (cells ++ end) 0 header_stands
      (glue b cells end 10 cells_stand (moved b end (cell_place k count) (10 + length cells) (omega arith) ends)))
