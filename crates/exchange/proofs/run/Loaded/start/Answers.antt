-- A run starts fresh.
use Rattle.exchange.proofs.Promises.{run_starts, all_lanes_idle}
use Rattle.exchange.proofs.run.Loaded.start.Goals as goal

pub returns-clause-promise : goal.returns-clause-promise
returns-clause-promise g c = λ s laid own.
    run_starts g.E.Element.algebra g.met.E.Element.lawful s _ laid.sound c.reset.ensures.tally c.reset.ensures.links
    (all_lanes_idle (g.D.Medium.lanes c.args.medium.now) c.in_default.ensures.ok.1
    (g.met.D.Medium.outside c.args.medium.now)) own
