-- Both theorems, cited.
use Rattle.forest.proofs.Stars.{star_forest}
use Rattle.forest.proofs.Accepted.{laid_plan_is_sound}
use Rattle.forest.proofs.meaning.star_forest_stands.Goals as goal

pub returns-clause-forest : goal.returns-clause-forest
returns-clause-forest c = star_forest

pub returns-clause-rules : goal.returns-clause-rules
returns-clause-rules c = laid_plan_is_sound
