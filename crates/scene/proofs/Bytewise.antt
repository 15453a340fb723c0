-- Bytes are admitted exactly if they are the bytes of a scene.
use Rattle.std.proofs.Common.{◌≡◌, ℕ, ◌<◌, Bool, List, Decides, sym, ap, ◌∙◌}
use Rattle.scene.specs.Layout.{byte_at, scene_of}
use Rattle.scene.specs.Rules.{admits}
use Rattle.scene.specs.Written.{Written, ReadsBack}
use Rattle.scene.proofs.Readback.{read_proper, read_written}
use Rattle.scene.proofs.Scenewise.{written_admitted, written_read}

pub accepted : (b : List ℕ) → ((i : ℕ) → byte_at b i < 256) → (r : Bool) → admits b ≡ r → Decides r (Written b)
accepted b small r is = (
  λ t. let ok = is ∙ t in (scene_of b, (read_proper b small ok, read_written b small ok)),
  λ w. sym is ∙ ap admits w.1.1 ∙ written_admitted w.0 w.1.0,
)

pub read_back : (b : List ℕ) → ReadsBack b
read_back b s w = ap scene_of w.1 ∙ written_read s w.0
