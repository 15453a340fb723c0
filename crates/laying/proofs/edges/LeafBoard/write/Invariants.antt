-- The edges to the roots before this one are appended.
use Rattle.std.proofs.Common.{take}
use Rattle.laying.specs.Filled.{Appends}
use Rattle.laying.specs.Tables.{board_edges}
use Rattle.laying.proofs.edges.LeafBoard.write.Given as goal

abbrev pub invariant-loop-root : goal.invariant-loop-root
invariant-loop-root l =
    let t = l.self.tables.now in
    Appends l.initial.out l.out (board_edges t.kept t.numbers (take l.root-index t.roots.items) l.self.board)
