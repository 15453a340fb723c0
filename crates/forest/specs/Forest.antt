-- The star forest of a scene: who keeps a copy of which vertex, who owns it, and the edges from ghosts to roots.
use Rattle.std.specs.Prelude.{ℕ, zero, suc, ◌+◌, Bool, false, cond, not, ◌&&◌, ◌||◌, List, [], ◌∷◌, map, length}
use Rattle.std.specs.Prelude.{filter, ◌==◌, nat_eq, nat_lt}
use Rattle.std.specs.List.{range_with_len, flat_map}
use Rattle.scene.specs.Cells.{Cell, Scene}
use Rattle.plan.specs.declared.records.CopyRecord.{CopyRecord}
use Rattle.plan.specs.declared.records.Edge.{Edge}

-- some element passes
abbrev pub any : {X : Type 0} → (X → Bool) → List X → Bool
any t [] = false
any t (x ∷ xs) = t x || any t xs

-- the vertex v is a corner of the cell
abbrev pub is_corner : ℕ → Cell → Bool
is_corner v c = any (λ x. nat_eq x v) c.corners

-- the two cells share a vertex
abbrev pub touch : Cell → Cell → Bool
touch c d = any (λ x. is_corner x c) d.corners

-- the cell is among those of board p and m layers around them
abbrev pub overlaps : List Cell → ℕ → ℕ → Cell → Bool
overlaps cells p zero c = c.board == p
overlaps cells p (suc m) c = any (λ d. overlaps cells p m d && touch c d) cells

-- board p keeps a copy of v
abbrev pub keeps : Scene → ℕ → ℕ → Bool
keeps s p v = any (λ c. overlaps s.cells p s.overlap c && is_corner v c) s.cells

-- board p owns a cell on v
abbrev pub owns_cell_on : Scene → ℕ → ℕ → Bool
owns_cell_on s p v = any (λ c. (c.board == p) && is_corner v c) s.cells

-- the lowest number below n that passes, or n
abbrev pub lowest : (ℕ → Bool) → ℕ → ℕ
lowest t zero = 0
lowest t (suc n) = cond (nat_lt (lowest t n) n) (lowest t n) (cond (t n) n (suc n))

-- the board that a vertex belongs to: the lowest that owns a cell on it; as many as there are boards where none does
abbrev pub owner : Scene → ℕ → ℕ
owner s v = lowest (λ p. owns_cell_on s p v) s.boards

-- the copies of board p by vertex, and all copies by board, then vertex
abbrev pub copies_of : Scene → ℕ → List CopyRecord
copies_of s p = map (λ v. record { board = p; vertex = v }) (filter (keeps s p) (range_with_len 0 s.vertices))

abbrev pub copies_up_to : Scene → ℕ → List CopyRecord
copies_up_to s p = flat_map (copies_of s) (range_with_len 0 p)

abbrev pub laid_copies : Scene → List CopyRecord
laid_copies s = copies_up_to s s.boards

-- the number of board p's copy of v: how many copies stand before it
abbrev pub number : Scene → ℕ → ℕ → ℕ
number s p v = length (copies_up_to s p) + length (filter (keeps s p) (range_with_len 0 v))

-- board p keeps a ghost of v, whose root is on board q
abbrev pub ghost_of : Scene → ℕ → ℕ → ℕ → Bool
ghost_of s p q v = not (p == q) && (keeps s p v && owner s v == q)

-- the edges by leaf board, then root board, then vertex
abbrev pub edge_to : Scene → ℕ → ℕ → ℕ → Edge
edge_to s p q v = record { from = p; to = q; vertex = v; leaf = number s p v; root = number s q v }

abbrev pub edges_to : Scene → ℕ → ℕ → List Edge
edges_to s p q = map (edge_to s p q) (filter (ghost_of s p q) (range_with_len 0 s.vertices))

abbrev pub edges_of : Scene → ℕ → List Edge
edges_of s p = flat_map (edges_to s p) (range_with_len 0 s.boards)

abbrev pub laid_edges : Scene → List Edge
laid_edges s = flat_map (edges_of s) (range_with_len 0 s.boards)
