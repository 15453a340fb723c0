-- What the readers of a sound scene answer is low: boards below 8, vertices below 1,024.
use Rattle.std.proofs.Common.{◌<◌, arith}
use Rattle.std.specs.List.{AllByRecursion}
use Rattle.std.proofs.ByRecursion.{All-weaker}
use Rattle.scene.specs.Cells.{Scene, Sound}

module _ (s : Scene) (sound : Sound s) where
  pub boards_low : AllByRecursion (λ c. c.board < 8) s.cells
  boards_low = All-weaker _ _ (λ c h. omega (arith, sound.few_boards)) s.cells sound.owned

  pub corners_low : AllByRecursion (λ c. AllByRecursion (λ v. v < 1024) c.corners) s.cells
  corners_low =
      All-weaker _ _ (λ c. All-weaker _ _ (λ v h. omega (arith, sound.few_vertices)) c.corners) s.cells
      sound.on_vertices
