-- One leaf board more.
use Rattle.std.proofs.Common.{length, ap, arith}
use Rattle.laying.specs.Filled.{HasRoom}
use Rattle.laying.specs.Tables.{board_edges, edges_in}
use Rattle.laying.proofs.Filled.{appends_more, room_left}
use Rattle.laying.proofs.tables.Tables.write_edges.Goals as goal

pub write-requires : goal.write-requires
write-requires c =
    let t = c.args.self.now in
    let start = c.new-out.result in
    let edges = board_edges t.kept t.numbers t.roots.items in
    let fits : HasRoom start (edges_in t.kept t.numbers t.roots.items t.boards) =
    omega (arith, c.requires, c.new-out.ensures.none, ap length c.new-out.ensures.kept)
    in
    let board = c.leaf_board.ensures in
    rw (board.tables, board.board)
    (room_left edges c.loop-p.p t.boards start c.loop-p.out c.loop-p-test.true fits c.loop-p.invariant)

pub loop-p-preserved : goal.loop-p-preserved
loop-p-preserved c =
    let t = c.args.self.now in
    let start = c.new-out.result in
    let edges = board_edges t.kept t.numbers t.roots.items in
    let fits : HasRoom start (edges_in t.kept t.numbers t.roots.items t.boards) =
    omega (arith, c.requires, c.new-out.ensures.none, ap length c.new-out.ensures.kept)
    in
    let board = c.leaf_board.ensures in
    appends_more edges c.loop-p.p t.boards start c.loop-p.out c.loop-p-test.true fits c.write.new.out
    c.loop-p.invariant (rw (board.tables, board.board) at c.write.ensures)
