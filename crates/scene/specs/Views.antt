-- What a view shows, and the scene that a view begins with.
use Rattle.std.specs.Prelude.{[]}
use Rattle.scene.specs.Cells.{Scene}
use Rattle.scene.specs.Layout.{scene_of}
use Rattle.scene.specs.declared.view.SceneView.{SceneView}

abbrev pub viewed : SceneView → Scene
viewed v = scene_of v.bytes.now

-- one board, kind 1, no overlap, no vertices and no cells
abbrev pub smallest_scene : Scene
smallest_scene = record { kind = 1; boards = 1; overlap = 0; vertices = 0; cells = [] }
