-- Each bit of the or is that of either word.
use Rattle.std.proofs.Common.{rules}
use Rattle.element.specs.Bitwise.{or_bit}
use Rattle.element.proofs.tags.either.Goals as goal

pub returns-clause-bits : goal.returns-clause-bits
returns-clause-bits c = search (rules, or_bit)
