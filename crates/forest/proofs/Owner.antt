-- The laws of ownership: all that is proved of a laid plan rests on these alone.
use Rattle.std.proofs.Common.{◌≡◌, ℕ, ◌<◌, ◌≤◌, true, ◌&&◌, eqb, refl, subst, arith}
use Rattle.std.proofs.lemmas.Bool.{eq-eqb, eqb-true, and_from, and_parts}
use Rattle.scene.specs.Cells.{Cell, Scene, Sound}
use Rattle.forest.specs.Forest.{is_corner, owns_cell_on, owner}
use Rattle.forest.proofs.Members.{Among, any_among, among_any, all_among}
use Rattle.forest.proofs.Lowest.{lowest_passes, lowest_first}

-- a vertex on which some board owns a cell has an owner
pub owner_below : (s : Scene) (p v : ℕ) → p < s.boards → owns_cell_on s p v ≡ true → owner s v < s.boards
owner_below s p v l h = omega (arith, lowest_first (λ p. owns_cell_on s p v) s.boards p l h)

-- and the owner owns a cell on it
pub owner_owns : (s : Scene) (v : ℕ) → owner s v < s.boards → owns_cell_on s (owner s v) v ≡ true
owner_owns s v l = lowest_passes (λ p. owns_cell_on s p v) s.boards l

-- no lower board does
pub owner_lowest : (s : Scene) (p v : ℕ) → p < s.boards → owns_cell_on s p v ≡ true → owner s v ≤ p
owner_lowest s p v l h = lowest_first (λ p. owns_cell_on s p v) s.boards p l h

-- the board of a cell on v owns a cell on v
pub board_owns : (s : Scene) (c : Cell) (v : ℕ) → Among c s.cells → is_corner v c ≡ true
    → owns_cell_on s c.board v ≡ true
board_owns s c v i o =
    among_any (λ d. eqb d.board c.board && is_corner v d) s.cells c i
    (and_from _ _ (eq-eqb c.board c.board refl) o)

-- so a vertex on some cell has an owner
pub owner_of_cell : (s : Scene) → Sound s → (c : Cell) (v : ℕ) → Among c s.cells → is_corner v c ≡ true
    → owner s v < s.boards
owner_of_cell s ok c v i o =
    owner_below s c.board v
    (all_among (λ c. c.board < s.boards) s.cells c ok.owned i) (board_owns s c v i o)

-- boards that own a cell are boards of the scene
pub owning_below : (s : Scene) → Sound s → (p v : ℕ) → owns_cell_on s p v ≡ true → p < s.boards
owning_below s ok p v h =
    let (c, i, t) = any_among (λ c. eqb c.board p && is_corner v c) s.cells h in
    subst (λ b. b < s.boards) (eqb-true c.board p (and_parts (eqb c.board p) _ t).0)
    (all_among (λ c. c.board < s.boards) s.cells c ok.owned i)
