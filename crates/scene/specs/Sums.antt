-- Own sums and undivided totals: joins of the contributions at a vertex.
use Rattle.std.specs.Prelude.{ℕ, Bool, true, cond, List, [], ◌∷◌, ◌++◌, map, ◌==◌, nat_eq}
use Rattle.element.specs.Algebra.{Algebra}
use Rattle.element.specs.Join.{join_all}
use Rattle.element.specs.declared.words.Words.{Words}
use Rattle.scene.specs.Cells.{Cell, Scene}

-- of the contributions to these corners, those at the vertex v
abbrev pub at_vertex : ℕ → List ℕ → List Words → List Words
at_vertex v [] ps = []
at_vertex v (x ∷ xs) [] = []
at_vertex v (x ∷ xs) (p ∷ ps) = cond (x == v) (p ∷ at_vertex v xs ps) (at_vertex v xs ps)

-- the contributions at v in those cells that pass, in the scene's order
abbrev pub contributions : (Cell → Bool) → ℕ → List Cell → List Words
contributions t v [] = []
contributions t v (c ∷ cs) = cond (t c) (at_vertex v c.corners c.parts ++ contributions t v cs)
    (contributions t v cs)

-- what board p's own cells contribute at v, joined
abbrev pub own_sum : {E : Type 0} → Algebra E → Scene → ℕ → ℕ → E
own_sum A s p v = join_all A (map A.unpack (contributions (λ c. nat_eq c.board p) v s.cells))

-- what all cells contribute at v, joined
abbrev pub undivided : {E : Type 0} → Algebra E → Scene → ℕ → E
undivided A s v = join_all A (map A.unpack (contributions (λ c. true) v s.cells))
