-- One board more.
use Rattle.std.proofs.Common.{length, ap, arith}
use Rattle.std.proofs.lemmas.List.{length-map}
use Rattle.laying.specs.Tables.{root_copy, row_roots}
use Rattle.laying.proofs.Gather.{room}
use Rattle.laying.proofs.Sizes.{roots_few}
use Rattle.laying.proofs.roots.roots.Goals as goal

pub add_row-requires-clause-room : goal.add_row-requires-clause-room
add_row-requires-clause-room c =
    let owners = c.args.owners.now in
    let n = length owners in
    let b = c.args.boards in
    omega (
      arith,
      c.requires.vertices,
      room (row_roots owners n) c.loop-q.q b c.loop-q-test.true,
      roots_few owners n b,
      ap length c.loop-q.invariant,
      length-map c.loop-q.roots.items root_copy,
    )
