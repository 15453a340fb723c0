-- So far the cells before this one, and its first k corners.
use Rattle.std.proofs.Common.{[], ◌∷◌, ◌++◌, get_or, take}
use Rattle.scene.specs.Read.{no_cell}
use Rattle.scene.specs.Views.{viewed}
use Rattle.sums.specs.Sums.{HoldsSums, first_corners}
use Rattle.sums.proofs.sums.OwnSums.add_cell.Given as goal

abbrev pub invariant-loop-k : goal.invariant-loop-k
invariant-loop-k g l =
    let cells = (viewed l.scene).cells in
    HoldsSums g.E.Element.algebra (take l.c cells ++ (first_corners l.k (get_or cells l.c no_cell) ∷ []))
    l.self.words
