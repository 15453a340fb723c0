-- So far the first c cells.
use Rattle.std.proofs.Common.{take}
use Rattle.scene.specs.Views.{viewed}
use Rattle.sums.specs.Sums.{HoldsSums}
use Rattle.sums.proofs.sums.OwnSums.of_scene.Given as goal

abbrev pub invariant-loop-c : goal.invariant-loop-c
invariant-loop-c g l = HoldsSums g.E.Element.algebra (take l.c (viewed l.scene).cells) l.sums.words
