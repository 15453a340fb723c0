-- The cell's board and the corner's vertex lie in the table.
use Rattle.scene.specs.Views.{viewed}
use Rattle.scene.proofs.Viewing.{view_sound}
use Rattle.sums.proofs.OwnSums.{board_low, corner_low}
use Rattle.sums.proofs.sums.OwnSums.add_corner.Goals as goal

pub place-at-requires : goal.place-at-requires
place-at-requires g c =
    let s = viewed c.args.scene.now in
    let sound = view_sound c.args.scene.now in (
      board_low s sound c.args.c c.in_ok-board.board c.in_ok-board.ensures,
      corner_low s sound c.args.c c.args.k c.in_ok-vertex.vertex c.in_ok-vertex.ensures,
    )
