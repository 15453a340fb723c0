-- Layers of overlap: a board's own cells are within each, so that a board keeps a copy of each vertex of its cells.
use Rattle.std.proofs.Common.{◌≡◌, ℕ, zero, suc, ◌<◌, true, ◌&&◌, eqb, subst}
use Rattle.std.specs.List.{AllByRecursion}
use Rattle.std.proofs.lemmas.Bool.{eqb-true, and_parts, and_from}
use Rattle.scene.specs.Cells.{Cell, Scene, Sound}
use Rattle.forest.specs.Forest.{is_corner, touch, overlaps, keeps, owns_cell_on, owner}
use Rattle.forest.proofs.Members.{Among, any_among, among_any, any_weaker, all_among}
use Rattle.forest.proofs.Owner.{owner_owns, owner_of_cell}

-- a cell with a corner shares a vertex with itself
pub touches_itself : (c : Cell) (v : ℕ) → is_corner v c ≡ true → touch c c ≡ true
touches_itself c v o =
    any_weaker (λ x. eqb x v) (λ x. is_corner x c) (λ x e. rw (eqb-true x v e) o) c.corners o

module _ (s : Scene) where
  -- the own cells on v are within every number of layers
  pub own_within : (m p v : ℕ) (c : Cell) → Among c s.cells → eqb c.board p ≡ true → is_corner v c ≡ true
      → overlaps s.cells p m c ≡ true
  own_within zero p v c i b o = b
  own_within (suc m) p v c i b o =
      among_any (λ d. overlaps s.cells p m d && touch c d) s.cells c i
      (and_from _ _ (own_within m p v c i b o) (touches_itself c v o))

  -- a board keeps a copy of each vertex that it owns a cell on
  pub keeps_own : (p v : ℕ) → owns_cell_on s p v ≡ true → keeps s p v ≡ true
  keeps_own p v h =
      let (c, i, t) = any_among (λ c. eqb c.board p && is_corner v c) s.cells h in
      let (b, o) = and_parts (eqb c.board p) _ t in
      among_any (λ c. overlaps s.cells p s.overlap c && is_corner v c) s.cells c i
      (and_from _ _ (own_within s.overlap p v c i b o) o)

  -- where some cell overlaps, the board is one that owns cells
  pub overlap_board : Sound s → (p m : ℕ) (c : Cell) → Among c s.cells → overlaps s.cells p m c ≡ true
      → p < s.boards
  overlap_board ok p zero c i h =
      subst (λ b. b < s.boards) (eqb-true c.board p h)
      (all_among (λ c. c.board < s.boards) s.cells c ok.owned i)
  overlap_board ok p (suc m) c i h =
      let (d, j, t) = any_among (λ d. overlaps s.cells p m d && touch c d) s.cells h in
      overlap_board ok p m d j (and_parts (overlaps s.cells p m d) _ t).0

  -- who keeps a copy of v: a board of the scene, of a vertex of the scene, on some cell
  pub kept_on : (p v : ℕ) → keeps s p v ≡ true
      → (c : Cell) × Among c s.cells × (overlaps s.cells p s.overlap c ≡ true) × (is_corner v c ≡ true)
  kept_on p v h =
      let (c, i, t) = any_among (λ c. overlaps s.cells p s.overlap c && is_corner v c) s.cells h in
      let (a, b) = and_parts (overlaps s.cells p s.overlap c) _ t in
      (c, i, a, b)

  pub vertex_below : Sound s → (c : Cell) (v : ℕ) → Among c s.cells → is_corner v c ≡ true → v < s.vertices
  vertex_below ok c v i o =
      let (x, j, e) = any_among (λ x. eqb x v) c.corners o in
      subst (λ x. x < s.vertices) (eqb-true x v e)
      (all_among (λ v. v < s.vertices) c.corners x
      (all_among (λ c. AllByRecursion (λ v. v < s.vertices) c.corners) s.cells c ok.on_vertices i) j)

  pub kept_below : Sound s → (p v : ℕ) → keeps s p v ≡ true → (p < s.boards) × (v < s.vertices)
  kept_below ok p v h =
      let (c, i, a, b) = kept_on p v h in
      (overlap_board ok p s.overlap c i a, vertex_below ok c v i b)

  -- what is kept has an owner, which keeps a copy too
  pub kept_is_owned : Sound s → (p v : ℕ) → keeps s p v ≡ true → owner s v < s.boards
  kept_is_owned ok p v h = let (c, i, a, b) = kept_on p v h in owner_of_cell s ok c v i b

  pub owner_keeps : (v : ℕ) → owner s v < s.boards → keeps s (owner s v) v ≡ true
  owner_keeps v l = keeps_own (owner s v) v (owner_owns s v l)
