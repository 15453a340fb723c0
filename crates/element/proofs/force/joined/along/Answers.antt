-- A sum that wraps is the same with a sign and without.
use Rattle.std.proofs.Common.{w32, rules}
use Rattle.std.proofs.lemmas.Int.{wrapping_add-bits}
use Rattle.element.proofs.force.joined.along.Goals as goal

pub returns-clause-signed : goal.returns-clause-signed
returns-clause-signed c = search (rules, wrapping_add-bits w32)
