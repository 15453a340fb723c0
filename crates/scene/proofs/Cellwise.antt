-- A cell's bytes are read as the cell, and a cell that is read has the bytes that it was read from.
use Rattle.std.proofs.Common.{◌≡◌, ℕ, ◌+◌, ◌*◌, ◌<◌, ◌≤◌, List, [], ◌∷◌, ◌++◌, map, length, get_or, sym, refl, ap}
use Rattle.std.proofs.Common.{◌∙◌, subst, arith}
use Rattle.std.specs.List.{range_with_len, flat_map, AllByRecursion}
use Rattle.std.proofs.lemmas.List.FromFn.{fill_by_all, length-map-range_with_len}
use Rattle.std.proofs.lemmas.List.{length-append}
use Rattle.element.specs.declared.words.Words.{Words}
use Rattle.scene.specs.Cells.{Cell}
use Rattle.scene.specs.Layout.{byte_at, number_at, words_at, cell_at, cell_size, corner_place, parts_place}
use Rattle.scene.specs.Read.{no_words}
use Rattle.scene.specs.Written.{two_bytes, words_bytes, cell_bytes}
use Rattle.scene.proofs.Counted.{get_or_counted}
use Rattle.scene.proofs.Standing.{Stands, moved, cut, glue, ends, length_each, cut_each, glue_each}
use Rattle.scene.proofs.Standing.{number_there, words_there, number_stands, words_stand}

pub every : {X : Type 0} (P : X → Type 0) → ((x : X) → P x) → (xs : List X) → AllByRecursion P xs
every P h [] = tt
every P h (x ∷ xs) = (h x, every P h xs)

pub twos : (xs : List ℕ) → AllByRecursion (λ n. length (two_bytes n) ≡ 2) xs
twos xs = every (λ n. length (two_bytes n) ≡ 2) (λ n. refl) xs

pub twelves : (xs : List Words) → AllByRecursion (λ w. length (words_bytes w) ≡ 12) xs
twelves xs = every (λ w. length (words_bytes w) ≡ 12) (λ w. refl) xs

same_byte : (b : List ℕ) (p q x : ℕ) → p ≡ q → byte_at b p ≡ x → byte_at b q ≡ x
same_byte b p q x e h = sym (ap (byte_at b) e) ∙ h

-- the cell c stands at a place, with its mark and its zero byte
pub record CellThere (k : ℕ) (b : List ℕ) (at : ℕ) (c : Cell) : Type 0 where
  pub room : at + cell_size k ≤ length b
  pub mark : (byte_at b at ≡ 0x43) × (byte_at b (at + 1) ≡ 0x45)
  pub blank : byte_at b (at + 3) ≡ 0
  pub is : cell_at k b at ≡ c

module _ (k : ℕ) (c : Cell) (some : length c.corners ≡ k) (parts : length c.parts ≡ k) where
  pub length_cell : length (cell_bytes c) ≡ cell_size k
  length_cell =
      let all = length-append (flat_map two_bytes c.corners) (flat_map words_bytes c.parts) in
      let cs = length_each two_bytes 2 0 c.corners (twos c.corners) in
      let ps = length_each words_bytes 12 no_words c.parts (twelves c.parts) in
      omega arith

  pub cell_there : (b : List ℕ) (at : ℕ) → Stands b at (cell_bytes c) → CellThere k b at c
  cell_there b at h =
      let cs = flat_map two_bytes c.corners in
      let ps = flat_map words_bytes c.parts in
      let rest = moved b (cs ++ ps) (at + 1 + 1 + 1 + 1) (at + 4) (omega arith) h.2.2.2.2 in
      let both = cut b cs ps (at + 4) rest in
      let size = length_each two_bytes 2 0 c.corners (twos c.corners) in
      let behind = moved b ps (at + 4 + length cs) (parts_place k at) (omega arith) both.1 in
      let board = same_byte b (at + 1 + 1) (at + 2) c.board (omega arith) h.2.2.1 in
      let corners =
      fill_by_all (λ i. number_at b (corner_place at i)) c.corners k 0 some
      (λ i l. sym (number_there b (get_or c.corners i 0) (at + 4 + 2 * i)
      (cut_each two_bytes 2 0 b c.corners (at + 4) (twos c.corners) both.0 i (omega arith)))) in
      let words =
      fill_by_all (λ i. words_at b (parts_place k at + 12 * i)) c.parts k no_words parts
      (λ i l. sym (words_there b (get_or c.parts i no_words) (parts_place k at + 12 * i)
      (cut_each words_bytes 12 no_words b c.parts (parts_place k at) (twelves c.parts) behind i
      (omega arith)))) in
      let all = ends b 0x43 (0x45 ∷ c.board ∷ 0 ∷ (cs ++ ps)) at h in
      let long = length_cell in
      record {
        room = omega arith;
        mark = (h.1, h.2.1);
        blank = same_byte b (at + 1 + 1 + 1) (at + 3) 0 (omega arith) h.2.2.2.1;
        is = λ i. record { board = board i; corners = sym corners i; parts = sym words i };
      }

module _ (b : List ℕ) (small : (i : ℕ) → byte_at b i < 256) (k at : ℕ) (room : at + cell_size k ≤ length b) where
  corners_stand : Stands b (at + 4) (flat_map two_bytes (cell_at k b at).corners)
  corners_stand =
      let f : ℕ → ℕ = λ i. number_at b (corner_place at i) in
      let xs = map f (range_with_len 0 k) in
      let long = length-map-range_with_len f 0 k in
      glue_each two_bytes 2 0 b xs (at + 4) (twos xs)
      (λ i l.
      let below : i < k = omega arith in
      subst (λ n. Stands b (at + 4 + 2 * i) (two_bytes n)) (sym (get_or_counted f k i 0 below))
      (number_stands b small (at + 4 + 2 * i) (omega arith)))

  parts_stand : Stands b (parts_place k at) (flat_map words_bytes (cell_at k b at).parts)
  parts_stand =
      let f : ℕ → Words = λ i. words_at b (parts_place k at + 12 * i) in
      let xs = map f (range_with_len 0 k) in
      let long = length-map-range_with_len f 0 k in
      glue_each words_bytes 12 no_words b xs (parts_place k at) (twelves xs)
      (λ i l.
      let below : i < k = omega arith in
      subst (λ w. Stands b (parts_place k at + 12 * i) (words_bytes w)) (sym (get_or_counted f k i no_words below))
      (words_stand b small (parts_place k at + 12 * i) (omega arith)))

  pub cell_stands : (byte_at b at ≡ 0x43) × (byte_at b (at + 1) ≡ 0x45) → byte_at b (at + 3) ≡ 0
      → Stands b at (cell_bytes (cell_at k b at))
  cell_stands mark blank =
      let c = cell_at k b at in
      let cs = flat_map two_bytes c.corners in
      let ps = flat_map words_bytes c.parts in
      let long = length-map-range_with_len (λ i. number_at b (corner_place at i)) 0 k in
      let size = length_each two_bytes 2 0 c.corners (twos c.corners) in
      let behind = moved b ps (parts_place k at) (at + 4 + length cs) (omega arith) parts_stand in
      let rest = moved b (cs ++ ps) (at + 4) (at + 1 + 1 + 1 + 1) (omega arith)
      (glue b cs ps (at + 4) corners_stand behind) in
      let board = same_byte b (at + 2) (at + 1 + 1) c.board (omega arith) refl in
      let zero_byte = same_byte b (at + 3) (at + 1 + 1 + 1) 0 (omega arith) blank in
      (omega arith, mark.0, (omega arith, mark.1, (omega arith, board, (omega arith, zero_byte, rest))))
