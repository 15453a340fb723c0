-- Computed circles are circles by the rules.
use Rattle.readings.proofs.Circling.{circles_lead}
use Rattle.readings.proofs.runs.runs_follow_the_rules.Goals as goal

pub returns : goal.returns
returns g c = circles_lead g.E.Element.algebra
