-- Memory that is filled from its start on.
use Rattle.std.specs.Prelude.{◌≡◌, ◌+◌, ◌≤◌, List, length}
use Rattle.laying.specs.Rows.{placed}
use Rattle.laying.specs.declared.filling.Filling.{Filling}

module _ {X : Type 0} where
  -- the memory has room for the records xs behind those that stand
  abbrev pub HasRoom : Filling X → List X → Type 0
  HasRoom f xs = f.len + length xs ≤ length f.out.now

  -- the records xs were written behind those that stood, into the same memory
  pub record Appends (f g : Filling X) (xs : List X) : Type 0 where
    pub len : g.len ≡ f.len + length xs
    pub written : g.out.now ≡ placed f.out.now f.len xs
    pub same : g.out.ghost_name ≡ f.out.ghost_name
