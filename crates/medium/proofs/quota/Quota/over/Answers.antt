-- What a quota makes of the rules below it holds of each quota.
use Rattle.std.specs.Prelude.{refl}
use Rattle.medium.specs.Calls.{rules_of}
use Rattle.medium.proofs.Quotas.{quotas_alike, quota_fills}
use Rattle.medium.proofs.quota.Quota.over.Goals as goal

pub returns-clause-decided : goal.returns-clause-decided
returns-clause-decided g c like =
    let R = rules_of g.M.Medium.lanes g.M.Medium.takes g.M.Medium.puts in quotas_alike R R _ _ refl like

pub returns-clause-fills : goal.returns-clause-fills
returns-clause-fills g c = quota_fills (rules_of g.M.Medium.lanes g.M.Medium.takes g.M.Medium.puts)
