-- The edges of a plan, link by link, and the items that each link carries.
use Rattle.std.specs.Prelude.{ℕ, ◌+◌, Bool, ◌&&◌, List, length, filter, ◌==◌, slice_index_or}
use Rattle.plan.specs.declared.records.CopyRecord.{CopyRecord}
use Rattle.plan.specs.declared.records.Edge.{Edge}

abbrev pub no_copy : CopyRecord
no_copy = record { board = 0; vertex = 0 }

abbrev pub no_edge : Edge
no_edge = record { from = 0; to = 0; vertex = 0; leaf = 0; root = 0 }

-- the edge e has its leaf on board p and its root on board q
abbrev pub joins : ℕ → ℕ → Edge → Bool
joins p q e = e.from == p && e.to == q

-- the edges from leaf board p to root board q, in the order of the plan
abbrev pub edges_between : List Edge → ℕ → ℕ → List Edge
edges_between edges p q = filter (joins p q) edges

-- a plan as turns see it: how many boards, how many edges from leaf board p to root board q,
-- and the numbers of the two copies that the m-th of them joins
pub record Shape : Type 0 where
  pub boards : ℕ
  pub up : ℕ → ℕ → ℕ
  pub leaf : ℕ → ℕ → ℕ → ℕ
  pub root : ℕ → ℕ → ℕ → ℕ

abbrev pub shape : ℕ → List Edge → Shape
shape boards edges = record {
  boards = boards;
  up = λ p q. length (edges_between edges p q);
  leaf = λ p q m. (slice_index_or (edges_between edges p q) m no_edge).leaf;
  root = λ p q m. (slice_index_or (edges_between edges p q) m no_edge).root;
}

-- the items that the link from p to q carries
abbrev pub items : Shape → ℕ → ℕ → ℕ
items P p q = P.up p q + P.up q p
