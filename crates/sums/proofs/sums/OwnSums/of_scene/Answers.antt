-- No cell is joined in yet.
use Rattle.sums.proofs.OwnSums.{none_held}
use Rattle.sums.proofs.sums.OwnSums.of_scene.Goals as goal

pub loop-c-init : goal.loop-c-init
loop-c-init g c =
    rw c.no_sum.ensures (none_held g.E.Element.algebra g.met.E.Element.lawful)
