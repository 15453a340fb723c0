-- No lane of a new queue holds a frame, and so it looks like every empty queue.
use Rattle.medium.specs.Tables.{made_empty}
use Rattle.medium.proofs.Queues.{empty_alike, queues_fill}
use Rattle.medium.proofs.queue.Queue.new.Goals as goal

pub returns : goal.returns
returns c =
    let none = made_empty c.opened.result 64 c.opened.ensures in
    record { empty = none; alike = empty_alike _ none; fills = queues_fill }
