-- What ties a plan with its laws to the laid plan of a scene.
use Rattle.std.proofs.Common.{◌≡◌, ℕ, ◌<◌, true, length, get_or}
use Rattle.element.specs.Algebra.{Algebra}
use Rattle.scene.specs.Cells.{Scene}
use Rattle.scene.specs.Sums.{own_sum, undivided}
use Rattle.plan.specs.Links.{no_edge}
use Rattle.forest.specs.Forest.{laid_copies, laid_edges}
use Rattle.protocol.specs.Runs.{laid}
use Rattle.protocol.specs.Promise.{copy_board, copy_vertex}
use Rattle.protocol.proofs.Plan.{Plan}
use Rattle.protocol.proofs.Pairs.{pairs}

pub record OfScene {M : Type 0} {A : Algebra M} (P : Plan A) (s : Scene) : Type 0 where
  pub shape_is : P.shape ≡ laid A s
  -- the valid copies are those that have a number below the count, each of its record's board and vertex
  pub is_valid : (c : ℕ) → c < length (laid_copies s) → P.valid c ≡ true
  pub valid_is : (c : ℕ) → P.valid c ≡ true → c < length (laid_copies s)
  pub board_is : (c : ℕ) → c < length (laid_copies s) → P.board c ≡ copy_board A s c
  pub own_is : (c : ℕ) → c < length (laid_copies s) → P.own c ≡ own_sum A s (copy_board A s c) (copy_vertex A s c)
  pub total_is : (c : ℕ) → c < length (laid_copies s) → P.total c ≡ undivided A s (copy_vertex A s c)
  -- each edge's leaf is the leaf of an edge between two boards
  pub edge_found : (e : ℕ) → e < length (laid_edges s)
      → (p : ℕ) × (q : ℕ) × (m : ℕ) × (p < s.boards) × (m < P.shape.up p q)
      × (P.shape.leaf p q m ≡ (get_or (laid_edges s) e no_edge).leaf)
  -- and the edges between all pairs of boards are all the edges
  pub edges_counted : pairs s.boards P.shape.up ≡ length (laid_edges s)
