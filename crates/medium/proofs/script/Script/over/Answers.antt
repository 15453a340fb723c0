-- What a script makes of the rules below it, from its first number on.
use Rattle.std.specs.Prelude.{refl}
use Rattle.std.proofs.Common.{subst, sym}
use Rattle.medium.specs.Calls.{rules_of, IsDecided}
use Rattle.medium.proofs.Scripts.{scripts_alike, follows_the_table}
use Rattle.medium.proofs.script.Script.over.Goals as goal

pub returns-clause-decided : goal.returns-clause-decided
returns-clause-decided g c like =
    let R = rules_of g.M.Medium.lanes g.M.Medium.takes g.M.Medium.puts in
    scripts_alike R R _ _ refl (subst (IsDecided R) (sym c.at_first.ensures.below) like)

pub returns-clause-follows : goal.returns-clause-follows
returns-clause-follows g c =
    follows_the_table (rules_of g.M.Medium.lanes g.M.Medium.takes g.M.Medium.puts) _ c.at_first.ensures.first
