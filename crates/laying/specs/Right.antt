-- Working tables that agree with a scene.
use Rattle.std.specs.Prelude.{◌≡◌, ℕ, Bool, List}
use Rattle.scene.specs.Cells.{Scene}
use Rattle.forest.specs.Forest.{laid_copies, laid_edges}
use Rattle.laying.specs.Tables.{copies_in, edges_in}
use Rattle.laying.specs.declared.root.Root.{Root}

-- the tables say the scene's copies and edges
pub record Right (s : Scene) (table : List (List Bool)) (numbers : List (List ℕ)) (roots : List Root) : Type 0 where
  pub copies : copies_in table s.vertices s.boards ≡ laid_copies s
  pub edges : edges_in table numbers roots s.boards ≡ laid_edges s
