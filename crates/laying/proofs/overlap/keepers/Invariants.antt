-- The boards that have come so far.
use Rattle.std.proofs.Common.{length, ◌≡◌}
use Rattle.scene.specs.Views.{viewed}
use Rattle.laying.specs.BoardSets.{TellsAll}
use Rattle.laying.specs.Reached.{is_reached}
use Rattle.laying.proofs.overlap.keepers.Given as goal

abbrev pub invariant-loop-layer : goal.invariant-loop-layer
invariant-loop-layer l =
    (length l.near ≡ 1024) × TellsAll l.near 1024 (λ p. is_reached (viewed l.scene).cells p l._layer)
