-- A board's copies stand together, from the end of the first search to that of the second.
use Rattle.std.proofs.Common.{◌≡◌, ◌+◌, ◌-◌, length, arith, rules}
use Rattle.plan.specs.Starts.{copies_on, copies_before}
use Rattle.plan.proofs.Searches.{ends_below, ends_past}
use Rattle.plan.proofs.Plans.{boards_rise, board_part}
use Rattle.plan.proofs.view.PlanView.board_part.Goals as goal

from_is : (c : goal.After-partition_point-end)
    → c.partition_point-from.result ≡ copies_before c.args.self.now.copies.now c.args.p
from_is c =
    let v = c.args.self.now in
    ends_below (λ d. d.board) c.args.p v.copies.now (boards_rise v.boards v.copies.now v.edges.now v.sound) _
    c.partition_point-from.ensures.bound c.partition_point-from.ensures.partitioned (λ a r q k. search rules)

end_is : (c : goal.After-partition_point-end) → c.partition_point-end.result
    ≡ copies_before c.args.self.now.copies.now c.args.p + length (copies_on c.args.self.now.copies.now c.args.p)
end_is c =
    let v = c.args.self.now in
    ends_past (λ d. d.board) c.args.p v.copies.now (boards_rise v.boards v.copies.now v.edges.now v.sound) _
    c.partition_point-end.ensures.bound c.partition_point-end.ensures.partitioned (λ a r q k. search rules)

pub overflow_sub-result : goal.overflow_sub-result
overflow_sub-result c = omega (arith, from_is c, end_is c)

pub returns : goal.returns
returns c =
    let v = c.args.self.now in
    let from = from_is c in
    let count : c.partition_point-end.result - c.partition_point-from.result
    ≡ length (copies_on v.copies.now c.args.p) = omega (arith, from_is c, end_is c) in
    record {
      from = from;
      count = count;
      part = rw (count, from) (board_part v.boards v.copies.now v.edges.now v.sound c.args.p);
      within = omega (arith, from_is c, end_is c, c.partition_point-end.ensures.bound);
    }
