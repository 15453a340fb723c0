-- One root more.
use Rattle.laying.specs.Said.{edge_to_root}
use Rattle.laying.proofs.Filled.{appends_next, room_next}
use Rattle.laying.proofs.edges.LeafBoard.write.Goals as goal

pub write_edge-requires : goal.write_edge-requires
write_edge-requires c =
    let leaves = c.args.self.now in
    let t = leaves.tables.now in
    let same = c.deref-root-items.ensures.0 in
    room_next (edge_to_root t leaves.board) t.roots.items c.loop-root.root-index c.root-item.result
    (rw same at c.loop-root-test.true) (rw same at c.root-item.is) c.args.out.now c.loop-root.out
    c.requires c.loop-root.invariant

pub loop-root-preserved : goal.loop-root-preserved
loop-root-preserved c =
    let leaves = c.args.self.now in
    let t = leaves.tables.now in
    let same = c.deref-root-items.ensures.0 in
    appends_next (edge_to_root t leaves.board) t.roots.items c.loop-root.root-index c.root-item.result
    (rw same at c.loop-root-test.true) (rw same at c.root-item.is) c.args.out.now c.loop-root.out
    c.requires c.write_edge.new.out c.loop-root.invariant c.write_edge.ensures
