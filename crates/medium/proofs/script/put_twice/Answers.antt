-- Two puts appended the sum of what they answered, and lanes hold few frames, so that the sum fits.
use Rattle.std.proofs.Common.{arith}
use Rattle.medium.specs.Appending.{both_appended, few_appended}
use Rattle.medium.proofs.script.put_twice.Goals as goal

pub overflow_add-result : goal.overflow_add-result
overflow_add-result g c =
    let few = g.met.M.Medium.few in
    let from = c.args.from in
    let to = c.args.to in
    let f = c.args.frame in
    let one = few_appended _ _ from to f _ c.put-one.ensures.after (few c.put-one.new.self from to) in
    let two = few_appended _ _ from to f _ c.put-two.ensures.after (few c.put-two.new.self from to) in
    omega (arith, one, two)

pub returns-clause-after : goal.returns-clause-after
returns-clause-after g c =
    both_appended _ _ _ c.args.from c.args.to c.args.frame _ _ c.put-one.ensures.after c.put-two.ensures.after
