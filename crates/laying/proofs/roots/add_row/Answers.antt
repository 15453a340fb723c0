-- One vertex more.
use Rattle.std.proofs.Common.{length, map, ap, arith}
use Rattle.std.proofs.lemmas.List.{length-append, length-map}
use Rattle.laying.specs.Tables.{root_copy, root_at, row_roots}
use Rattle.laying.proofs.Gather.{room}
use Rattle.laying.proofs.roots.add_row.Goals as goal

pub add_root-requires-clause-room : goal.add_root-requires-clause-room
add_root-requires-clause-room c =
    let owners = c.args.owners.now in
    let q = c.args.q in
    let v = c.loop-v.v in
    let was = c.args.roots.now.items in
    let now = c.loop-v.roots.items in
    let left = room (root_at owners q) v (length owners) c.loop-v-test.true in
    omega (
      arith,
      c.requires.room,
      left,
      ap length c.loop-v.invariant,
      length-append (map root_copy was) (row_roots owners v q),
      length-map was root_copy,
      length-map now root_copy,
    )
