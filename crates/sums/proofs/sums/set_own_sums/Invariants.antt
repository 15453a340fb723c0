-- So far the first n copies.
use Rattle.std.proofs.Common.{◌≡◌, ◌++◌, take, drop}
use Rattle.scene.specs.Views.{viewed}
use Rattle.sums.specs.Sums.{loaded_copies}
use Rattle.sums.proofs.sums.set_own_sums.Given as goal

abbrev pub invariant-loop-n : goal.invariant-loop-n
invariant-loop-n g l =
    l.copies
    ≡ loaded_copies g.E.Element.algebra (viewed l.scene) (take l.n l.record-items) ++ drop l.n l.initial.copies
