-- A lane is itself.
use Rattle.std.proofs.Common.{◌≡◌, ℕ, true, eqb, refl}
use Rattle.std.proofs.lemmas.Bool.{and_from, eq-eqb}
use Rattle.medium.specs.Lanes.{same_lane}

pub same_lane_self : (q p : ℕ) → same_lane q p q p ≡ true
same_lane_self q p = and_from (eqb q q) (eqb p p) (eq-eqb q q refl) (eq-eqb p p refl)
