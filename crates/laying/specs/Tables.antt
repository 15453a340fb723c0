-- The records that working tables say: for each board the vertices that it keeps and the numbers of its copies, for
-- each vertex its owner, and all roots by board, then vertex.
use Rattle.std.specs.Prelude.{ℕ, ◌+◌, Bool, cond, not, ◌&&◌, List, [], length, Some, None, Option, ◌==◌, nat_lt}
use Rattle.std.specs.Prelude.{slice_index_or}
use Rattle.std.specs.List.{flat_map}
use Rattle.scene.specs.Cells.{Scene}
use Rattle.forest.specs.Forest.{lowest, owns_cell_on}
use Rattle.laying.specs.Rows.{flag_at, passes, many, lists_below, only}
use Rattle.laying.specs.declared.root.Root.{Root}
use Rattle.plan.specs.declared.records.CopyRecord.{CopyRecord}
use Rattle.plan.specs.declared.records.Edge.{Edge}

-- the row of board p
abbrev pub row : {X : Type 0} → List (List X) → ℕ → List X
row table p = slice_index_or table p []

-- board p's copy of v
abbrev pub copy_record : ℕ → ℕ → CopyRecord
copy_record p v = record { board = p; vertex = v }

-- the same, if it keeps one
abbrev pub copy_if_kept : List Bool → ℕ → ℕ → List CopyRecord
copy_if_kept keep p v = only (flag_at keep v) (copy_record p v)

-- the copies of board p, of n vertices
abbrev pub row_copies : List Bool → ℕ → ℕ → List CopyRecord
row_copies keep p n = lists_below (copy_if_kept keep p) n

abbrev pub board_copies : List (List Bool) → ℕ → ℕ → List CopyRecord
board_copies table n p = row_copies (row table p) p n

-- the copies of the boards below p
abbrev pub copies_in : List (List Bool) → ℕ → ℕ → List CopyRecord
copies_in table n p = lists_below (board_copies table n) p

-- the number of board p's copy of v: how many copies stand before it
abbrev pub number_in : List (List Bool) → ℕ → ℕ → ℕ → ℕ
number_in table n p v = length (copies_in table n p) + many (flag_at (row table p)) v

-- the lowest number below n that passes, if one does
abbrev pub lowest_below : (ℕ → Bool) → ℕ → Option ℕ
lowest_below t n = cond (nat_lt (lowest t n) n) (Some (lowest t n)) None

-- the board that a vertex belongs to, if it belongs to one
abbrev pub owning : Scene → ℕ → Option ℕ
owning s v = lowest_below (λ p. owns_cell_on s p v) s.boards

-- a root is a copy
abbrev pub root_copy : Root → CopyRecord
root_copy r = copy_record r.board r.vertex

-- board q's copy of v, if that is the vertex's owner
abbrev pub root_if : Option ℕ → ℕ → ℕ → List CopyRecord
root_if owner q v = only (passes (λ o. o == q) owner) (copy_record q v)

abbrev pub root_at : List (Option ℕ) → ℕ → ℕ → List CopyRecord
root_at owners q v = root_if (slice_index_or owners v None) q v

-- the roots of board q, of n vertices
abbrev pub row_roots : List (Option ℕ) → ℕ → ℕ → List CopyRecord
row_roots owners n q = lists_below (root_at owners q) n

-- the roots of the boards below q
abbrev pub roots_in : List (Option ℕ) → ℕ → ℕ → List CopyRecord
roots_in owners n q = lists_below (row_roots owners n) q

-- a board p that keeps this row has a ghost of the root c
abbrev pub ghost_in : List Bool → ℕ → CopyRecord → Bool
ghost_in keep p c = not (p == c.board) && flag_at keep c.vertex

-- the edge from board p's copy of the vertex to the root c
abbrev pub edge_record : List (List ℕ) → ℕ → CopyRecord → Edge
edge_record numbers p c =
    record {
      from = p;
      to = c.board;
      vertex = c.vertex;
      leaf = slice_index_or (row numbers p) c.vertex 0;
      root = slice_index_or (row numbers c.board) c.vertex 0;
    }

-- the same, if board p has a ghost of the root
abbrev pub edge_if_ghost : List (List Bool) → List (List ℕ) → ℕ → CopyRecord → List Edge
edge_if_ghost table numbers p c = only (ghost_in (row table p) p c) (edge_record numbers p c)

-- the edges from board p
abbrev pub board_edges : List (List Bool) → List (List ℕ) → List Root → ℕ → List Edge
board_edges table numbers roots p = flat_map (λ r. edge_if_ghost table numbers p (root_copy r)) roots

-- the edges from the boards below p
abbrev pub edges_in : List (List Bool) → List (List ℕ) → List Root → ℕ → List Edge
edges_in table numbers roots p = lists_below (board_edges table numbers roots) p
