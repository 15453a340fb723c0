-- What every view keeps.
use Rattle.scene.specs.Cells.{Sound}
use Rattle.scene.specs.Views.{viewed}
use Rattle.scene.specs.declared.view.SceneView.{SceneView}
use Rattle.scene.proofs.Soundness.{sound}

pub view_sound : (v : SceneView) → Sound (viewed v)
view_sound v = sound v.bytes.now v.ok
