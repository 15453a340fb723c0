-- What the tables of a scene say of its plan.
use Rattle.std.specs.Prelude.{ℕ, Bool, List}
use Rattle.plan.specs.declared.records.CopyRecord.{CopyRecord}
use Rattle.plan.specs.declared.records.Edge.{Edge}
use Rattle.laying.specs.Tables.{row, copies_in, root_copy, ghost_in, edge_if_ghost, board_edges, edges_in}
use Rattle.laying.specs.declared.root.Root.{Root}
use Rattle.laying.specs.declared.tables.Tables.{Tables}

-- all copies
abbrev pub all_copies : Tables → List CopyRecord
all_copies t = copies_in t.kept t.vertices t.boards

-- board p has a ghost of the root
abbrev pub ghost_at : Tables → ℕ → Root → Bool
ghost_at t p r = ghost_in (row t.kept p) p (root_copy r)

-- the edge from board p to the root, if there is one
abbrev pub edge_to_root : Tables → ℕ → Root → List Edge
edge_to_root t p r = edge_if_ghost t.kept t.numbers p (root_copy r)

-- the edges from board p, and from all boards
abbrev pub edges_from : Tables → ℕ → List Edge
edges_from t p = board_edges t.kept t.numbers t.roots.items p

abbrev pub all_edges : Tables → List Edge
all_edges t = edges_in t.kept t.numbers t.roots.items t.boards
