-- How many copies and edges a laid plan can have.
use Rattle.std.proofs.Common.{ℕ, ◌≤◌, length, filter, arith}
use Rattle.std.specs.List.{range_with_len}
use Rattle.std.proofs.lemmas.List.{length-map}
use Rattle.std.proofs.lemmas.List.Sums.{length-filter, count_by-le-length}
use Rattle.std.proofs.ByRecursion.{sum_by_le}
use Rattle.std.proofs.lemmas.List.FromFn.{length-range_with_len}
use Rattle.scene.specs.Cells.{Scene, Sound}
use Rattle.forest.specs.Forest.{keeps, copies_of, laid_copies, laid_edges}
use Rattle.forest.specs.Meaning.{is_ghost}
use Rattle.forest.proofs.Members.{all_given}
use Rattle.forest.proofs.Filters.{length_joined}
use Rattle.forest.proofs.Copies.{copy}
use Rattle.forest.proofs.Ghosts.{as_many_edges_as_ghosts}

module _ (s : Scene) (ok : Sound s) where
  -- a copy of each vertex on each board at most
  pub few_copies_of : (p : ℕ) → length (copies_of s p) ≤ 1024
  few_copies_of p =
      let vs = range_with_len 0 s.vertices in
      omega (
        arith,
        length-map (filter (keeps s p) vs) (copy p),
        length-filter (keeps s p) vs,
        count_by-le-length (keeps s p) vs,
        length-range_with_len 0 s.vertices,
        ok.few_vertices,
      )

  pub few_copies : length (laid_copies s) ≤ 8192
  few_copies =
      omega (
        arith,
        length_joined (copies_of s) (range_with_len 0 s.boards),
        sum_by_le (λ p. length (copies_of s p)) 1024 (range_with_len 0 s.boards) (all_given _ few_copies_of _),
        length-range_with_len 0 s.boards,
        ok.few_boards,
      )

  -- and no more edges than copies
  pub edges_within_copies : length (laid_edges s) ≤ length (laid_copies s)
  edges_within_copies =
      omega (
        arith,
        as_many_edges_as_ghosts s ok,
        length-filter (is_ghost s) (laid_copies s),
        count_by-le-length (is_ghost s) (laid_copies s),
      )
