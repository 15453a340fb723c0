-- What a laid plan is: a star forest on the copies of the scene's vertices.
use Rattle.std.specs.Prelude.{◌≡◌, ℕ, suc, ◌<◌, ◌≤◌, Bool, true, not, ◌≢◌, ◌⊎◌, List, length, filter, ◌==◌}
use Rattle.std.specs.Prelude.{slice_index_or}
use Rattle.std.specs.List.{ContainsAt}
use Rattle.scene.specs.Cells.{Cell, Scene, Sound}
use Rattle.plan.specs.declared.records.CopyRecord.{CopyRecord}
use Rattle.plan.specs.declared.records.Edge.{Edge}
use Rattle.plan.specs.Links.{no_copy, no_edge}
use Rattle.plan.specs.Sound.{sound_plan}
use Rattle.forest.specs.Forest.{owner, laid_copies, laid_edges}

-- exactly one number has the property
abbrev pub ExactlyOne : (ℕ → Type 0) → Type 0
ExactlyOne P = (n : ℕ) × P n × ((m : ℕ) → P m → m ≡ n)

-- v is a corner of the cell
abbrev pub Corner : ℕ → Cell → Type 0
Corner v c = ContainsAt c.corners v

-- the cell is one of board p's, or one of the m layers around them: it shares a vertex with a cell of the layer before
pub data Within (cells : List Cell) (p : ℕ) : ℕ → Cell → Type 0 where
  own : {c : Cell} → c.board ≡ p → Within cells p 0 c
  around : {m : ℕ} {c : Cell} (d : Cell) (x : ℕ) → Within cells p m d → ContainsAt cells d → Corner x c → Corner x d
      → Within cells p (suc m) c

module _ (s : Scene) where
  -- board p keeps a copy of v: v is a corner of a cell within the scene's number of layers
  abbrev pub Keeps : ℕ → ℕ → Type 0
  Keeps p v = (c : Cell) × ContainsAt s.cells c × Within s.cells p s.overlap c × Corner v c

  abbrev pub OwnsCellOn : ℕ → ℕ → Type 0
  OwnsCellOn p v = (c : Cell) × ContainsAt s.cells c × (c.board ≡ p) × Corner v c

  -- a vertex belongs to the lowest board that owns a cell on it
  abbrev pub BelongsTo : ℕ → ℕ → Type 0
  BelongsTo p v = OwnsCellOn p v × ((q : ℕ) → OwnsCellOn q v → p ≤ q)

  -- the copy with number c, and the edge with number e
  abbrev pub copy_at : ℕ → CopyRecord
  copy_at c = slice_index_or (laid_copies s) c no_copy

  abbrev pub edge_at : ℕ → Edge
  edge_at e = slice_index_or (laid_edges s) e no_edge

  -- there is a copy with number c, and it is board p's copy of v
  abbrev pub CopyOf : ℕ → ℕ → ℕ → Type 0
  CopyOf p v c = (c < length (laid_copies s)) × ((copy_at c).board ≡ p) × ((copy_at c).vertex ≡ v)

  -- a root is the copy of the board that its vertex belongs to, and any other copy is a ghost
  abbrev pub Root : ℕ → Type 0
  Root c = BelongsTo (copy_at c).board (copy_at c).vertex

  abbrev pub is_ghost : CopyRecord → Bool
  is_ghost r = not (r.board == owner s r.vertex)

  -- the edge with number e leads from the copy with number c
  abbrev pub LeadsFrom : ℕ → ℕ → Type 0
  LeadsFrom c e = (e < length (laid_edges s)) × ((edge_at e).leaf ≡ c)

  pub record StarForest : Type 0 where
    -- the copies are those that boards keep, each once; a board keeps one of each vertex that it owns a cell on
    pub copies_are_kept : (c : ℕ) → c < length (laid_copies s) → Keeps (copy_at c).board (copy_at c).vertex
    pub kept_once : (p v : ℕ) → Keeps p v → ExactlyOne (CopyOf p v)
    pub own_vertices_kept : (p v : ℕ) → OwnsCellOn p v → Keeps p v
    -- a vertex on some cell belongs to its owner, and has exactly one root
    pub owned : (p v : ℕ) → OwnsCellOn p v → BelongsTo (owner s v) v
    pub one_root : (p v : ℕ) → OwnsCellOn p v
        → ExactlyOne (λ c. (c < length (laid_copies s)) × ((copy_at c).vertex ≡ v) × Root c)
    -- every copy is a root, and no edge leads from it, or a ghost, and exactly one edge does
    pub root_or_leaf : (c : ℕ) → c < length (laid_copies s)
        → (Root c × ((e : ℕ) → LeadsFrom c e → ⊥)) ⊎ ((Root c → ⊥) × ExactlyOne (LeadsFrom c))
    -- each edge leads from its leaf board's copy to the root of the same vertex, on another board
    pub edges_lead_to_roots : (e : ℕ) → e < length (laid_edges s)
        → CopyOf (edge_at e).from (edge_at e).vertex (edge_at e).leaf
        × CopyOf (edge_at e).to (edge_at e).vertex (edge_at e).root
        × Root (edge_at e).root × ((edge_at e).from ≢ (edge_at e).to)
    pub as_many_edges_as_ghosts : length (laid_edges s) ≡ length (filter is_ghost (laid_copies s))

-- of every sound scene
abbrev pub LaidPlansAreStarForests : Type 0
LaidPlansAreStarForests = (s : Scene) → Sound s → StarForest s

-- and it keeps the rules of a plan
abbrev pub LaidPlansKeepTheRules : Type 0
LaidPlansKeepTheRules = (s : Scene) → Sound s → sound_plan s.boards (laid_copies s) (laid_edges s) ≡ true
