-- The laid plan of a view's scene is a star forest, and a plan view takes it.
use Rattle.std.proofs.Common.{◌≡◌, true}
use Rattle.forest.proofs.Accepted.{laid_plan_is_sound}
use Rattle.forest.proofs.Stars.{star_forest}
use Rattle.forest.specs.Forest.{laid_copies, laid_edges}
use Rattle.forest.specs.Meaning.{StarForest}
use Rattle.plan.specs.Sound.{sound_plan}
use Rattle.scene.proofs.Viewing.{view_sound}
use Rattle.scene.specs.Layout.{scene_of}
use Rattle.scene.specs.declared.view.SceneView.{SceneView}

pub view_forest : (v : SceneView) → StarForest (scene_of v.bytes.now)
view_forest v = star_forest (scene_of v.bytes.now) (view_sound v)

pub view_plan : (v : SceneView)
    → sound_plan (scene_of v.bytes.now).boards (laid_copies (scene_of v.bytes.now)) (laid_edges (scene_of v.bytes.now))
    ≡ true
view_plan v = laid_plan_is_sound (scene_of v.bytes.now) (view_sound v)
