-- Each example computes.
use Rattle.std.proofs.Common.{refl}
use Rattle.std.specs.Fmt.{digits}
use Rattle.listing.specs.Readings.{LineReadings}
use Rattle.listing.proofs.readings.lines_read_so.Goals as goal

examples : LineReadings
unfolding digits
examples = record { plan = refl; tally = refl; settled = refl; awaits = refl; copy = refl; refusal = refl }

pub returns-clause-readings : goal.returns-clause-readings
returns-clause-readings c = examples
