-- One layer more.
use Rattle.std.proofs.Common.{sym, ap, ◌∙◌, add-one, rules}
use Rattle.scene.specs.Views.{viewed}
use Rattle.laying.specs.BoardSets.{has, board_set_at}
use Rattle.laying.specs.Reached.{is_reached}
use Rattle.laying.proofs.Corners.{corners_low, read_low}
use Rattle.laying.proofs.Layers.{reached_next}
use Rattle.laying.proofs.overlap.keepers.Goals as goal

pub spread-near-requires : goal.spread-near-requires
spread-near-requires c = read_low c.args.scene.now c.args.corners.now c.requires.read

pub loop-layer-preserved : goal.loop-layer-preserved
loop-layer-preserved c =
    let s = viewed c.args.scene.now in
    let k = c.loop-layer._layer in
    let read = c.requires.read in
    let near = c.loop-layer.near in (
      search rules,
      λ p v h.
          c.spread-near.ensures p v h
          ∙ reached_next s.cells p k (λ x. has (board_set_at near x) p) (c.loop-layer.invariant.1 p) c.args.corners.now
          read.all read.each (corners_low c.args.scene.now) v
          ∙ ap (λ n. is_reached s.cells p n v) (sym (add-one k)),
    )
