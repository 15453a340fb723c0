-- Copies just loaded are what a fresh run starts from, and every run of elements that keep the laws keeps the promise.
use Rattle.scene.specs.Views.{viewed}
use Rattle.protocol.proofs.Theorem.{promise_holds}
use Rattle.exchange.proofs.Promises.{run_starts, all_lanes_idle, own_sums_from_load}
use Rattle.exchange.proofs.run.drive.begin.Goals as goal

pub returns-in_err-check_begin-clause-every_run : goal.returns-in_err-check_begin-clause-every_run
returns-in_err-check_begin-clause-every_run g c = promise_holds g.E.Element.algebra g.met.E.Element.lawful

pub returns-clause-every_run : goal.returns-clause-every_run
returns-clause-every_run g c = promise_holds g.E.Element.algebra g.met.E.Element.lawful

pub returns-clause-promise : goal.returns-clause-promise
returns-clause-promise g c = λ laid.
    let A = g.E.Element.algebra in
    let s = viewed c.args.scene.now in
    let begun = c.begin_checked.ensures in
    run_starts A g.met.E.Element.lawful s _ laid.sound begun.tally begun.links
    (all_lanes_idle (g.D.Medium.lanes c.args.medium.now) c.in_ok-check_begin.ensures.ok.1
    (g.met.D.Medium.outside c.args.medium.now))
    (own_sums_from_load A s c.args.plan.now.copies.now c.args.copies.now _ laid.same_copies begun.copies)
