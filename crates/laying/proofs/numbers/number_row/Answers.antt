-- One vertex more.
use Rattle.std.proofs.Common.{◌+◌, ◌<◌, ◌≤◌, arith, rules}
use Rattle.laying.specs.Rows.{flag_at}
use Rattle.laying.proofs.Gather.{many_le, byte_le}
use Rattle.laying.proofs.numbers.number_row.Goals as goal

pub overflow_cast-numbers : goal.overflow_cast-numbers
overflow_cast-numbers c =
    let small : c.loop-v.next < 65536 =
    omega (arith, c.loop-v.invariant.following, many_le (flag_at c.args.row.now) c.loop-v.v)
    in
    search rules

pub overflow_add-next : goal.overflow_add-next
overflow_add-next c =
    let f = flag_at c.args.row.now in
    let v = c.loop-v.v in
    let small : c.loop-v.next + c.from-next.result ≤ 16384 =
    omega (arith, c.loop-v.invariant.following, many_le f v, byte_le (f v), c.from-next.ensures)
    in
    search rules
