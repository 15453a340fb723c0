-- Why a scene is not prepared, and what is left then.
use Rattle.std.specs.Prelude.{◌≡◌, ℕ, true, List, Err}
use Rattle.plan.specs.declared.records.CopyRecord.{CopyRecord}
use Rattle.plan.specs.declared.records.Edge.{Edge}
use Rattle.scene.specs.Layout.{scene_of}
use Rattle.scene.specs.Rules.{admits, scene_rules, verdict}
use Rattle.scene.specs.declared.view.SceneView.{SceneView}
use Rattle.laying.specs.Laid.{Short}
use Rattle.refusals.specs.declared.refusal.Refusal.{Refusal}
use Rattle.refusals.specs.declared.refusal.Refusal.TheVariants.{Scene, Lay, Plan, Run}

-- the bytes are no scene; or the memory is too short for the plan of the one that they are
abbrev pub Hindrance : List ℕ → Refusal → List CopyRecord → List Edge → Type 0
Hindrance bytes (Scene f) copies edges = verdict (scene_rules bytes) ≡ Err f
Hindrance bytes (Lay f) copies edges = (admits bytes ≡ true) × Short (scene_of bytes) copies edges f
Hindrance bytes (Plan f) copies edges = ⊥
Hindrance bytes (Run f) copies edges = ⊥

-- a refusal says what is in the way, and leaves all that was handed in as it was
pub record Unprepared (bytes : List ℕ) (f : Refusal) (view view' : SceneView) (copies copies' : List CopyRecord)
    (edges edges' : List Edge) : Type 0 where
  pub hindered : Hindrance bytes f copies edges
  pub view_kept : view' ≡ view
  pub copies_kept : copies' ≡ copies
  pub edges_kept : edges' ≡ edges
