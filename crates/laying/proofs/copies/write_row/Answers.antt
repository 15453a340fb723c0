-- One vertex more.
use Rattle.std.proofs.Common.{length}
use Rattle.laying.specs.Tables.{copy_if_kept}
use Rattle.laying.proofs.Filled.{appends_more, room_left}
use Rattle.laying.proofs.copies.write_row.Goals as goal

pub write_copy-requires-clause-room : goal.write_copy-requires-clause-room
write_copy-requires-clause-room c =
    let row = c.args.row.now in
    room_left (copy_if_kept row c.args.p) c.loop-v.v (length row) c.args.out.now c.loop-v.out c.loop-v-test.true
    c.requires.room c.loop-v.invariant

pub loop-v-preserved : goal.loop-v-preserved
loop-v-preserved c =
    let row = c.args.row.now in
    appends_more (copy_if_kept row c.args.p) c.loop-v.v (length row) c.args.out.now c.loop-v.out c.loop-v-test.true
    c.requires.room c.write_copy.new.out c.loop-v.invariant c.write_copy.ensures
