-- The tests of the definitions say what the meaning says: who keeps and who owns, by cells and corners.
use Rattle.std.proofs.Common.{◌≡◌, ℕ, zero, suc, ◌<◌, ◌≤◌, true, ◌&&◌, eqb, List, refl, subst, arith}
use Rattle.std.proofs.lemmas.Bool.{eqb-true, eq-eqb, and_parts, and_from}
use Rattle.scene.specs.Cells.{Cell, Scene, Sound}
use Rattle.forest.specs.Forest.{is_corner, touch, overlaps, keeps, owns_cell_on, owner}
use Rattle.forest.specs.Meaning.{Corner, Within, own, around, Keeps, OwnsCellOn, BelongsTo}
use Rattle.forest.proofs.Members.{Among, any_among, among_any, among_has, has_among}
use Rattle.forest.proofs.Owner.{owner_below, owner_owns, owner_lowest, owning_below}

corner_says : (v : ℕ) (c : Cell) → is_corner v c ≡ true → Corner v c
corner_says v c h =
    let (x, i, e) = any_among (λ x. eqb x v) c.corners h in
    among_has c.corners v (subst (λ y. Among y c.corners) (eqb-true x v e) i)

says_corner : (v : ℕ) (c : Cell) → Corner v c → is_corner v c ≡ true
says_corner v c h = among_any (λ x. eqb x v) c.corners v (has_among c.corners v h) (eq-eqb v v refl)

overlaps_says : (cells : List Cell) (p m : ℕ) (c : Cell) → overlaps cells p m c ≡ true → Within cells p m c
overlaps_says cells p zero c h = own (eqb-true _ _ h)
overlaps_says cells p (suc m) c h =
    let (d, i, t) = any_among (λ d. overlaps cells p m d && touch c d) cells h in
    let (a, b) = and_parts (overlaps cells p m d) _ t in
    let (x, j, o) = any_among (λ x. is_corner x c) d.corners b in
    around d x (overlaps_says cells p m d a) (among_has cells d i) (corner_says x c o) (among_has d.corners x j)

says_overlaps : (cells : List Cell) (p : ℕ) {m : ℕ} {c : Cell} → Within cells p m c → overlaps cells p m c ≡ true
says_overlaps cells p (own e) = eq-eqb _ _ e
says_overlaps cells p (around {m = m} {c = c} d x w i a b) =
    among_any (λ d. overlaps cells p m d && touch c d) cells d (has_among cells d i)
    (and_from _ _ (says_overlaps cells p w)
    (among_any (λ x. is_corner x c) d.corners x (has_among d.corners x b) (says_corner x c a)))

module _ (s : Scene) where
  pub keeps_says : (p v : ℕ) → keeps s p v ≡ true → Keeps s p v
  keeps_says p v h =
      let (c, i, t) = any_among (λ c. overlaps s.cells p s.overlap c && is_corner v c) s.cells h in
      let (a, b) = and_parts (overlaps s.cells p s.overlap c) _ t in
      (c, among_has s.cells c i, overlaps_says s.cells p s.overlap c a, corner_says v c b)

  pub says_keeps : (p v : ℕ) → Keeps s p v → keeps s p v ≡ true
  says_keeps p v (c, i, a, b) =
      among_any (λ c. overlaps s.cells p s.overlap c && is_corner v c) s.cells c (has_among s.cells c i)
      (and_from _ _ (says_overlaps s.cells p a) (says_corner v c b))

  pub owns_says : (p v : ℕ) → owns_cell_on s p v ≡ true → OwnsCellOn s p v
  owns_says p v h =
      let (c, i, t) = any_among (λ c. eqb c.board p && is_corner v c) s.cells h in
      let (a, b) = and_parts (eqb c.board p) _ t in
      (c, among_has s.cells c i, eqb-true _ _ a, corner_says v c b)

  pub says_owns : (p v : ℕ) → OwnsCellOn s p v → owns_cell_on s p v ≡ true
  says_owns p v (c, i, a, b) =
      among_any (λ c. eqb c.board p && is_corner v c) s.cells c (has_among s.cells c i)
      (and_from _ _ (eq-eqb _ _ a) (says_corner v c b))

  -- a vertex belongs to its owner
  pub belongs_to_owner : Sound s → (v : ℕ) → owner s v < s.boards → BelongsTo s (owner s v) v
  belongs_to_owner ok v l = (
    owns_says (owner s v) v (owner_owns s v l),
    λ q h. let w = says_owns q v h in owner_lowest s q v (owning_below s ok q v w) w,
  )

  -- and to no other board
  pub belongs_is_owner : Sound s → (p v : ℕ) → BelongsTo s p v → p ≡ owner s v
  belongs_is_owner ok p v (h, low) =
      let w = says_owns p v h in
      let pb = owning_below s ok p v w in
      let below : owner s v < s.boards = owner_below s p v pb w in
      let least : p ≤ owner s v = low (owner s v) (owns_says (owner s v) v (owner_owns s v below)) in
      omega (arith, owner_lowest s p v pb w)
