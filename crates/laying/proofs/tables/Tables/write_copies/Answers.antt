-- One board more.
use Rattle.std.proofs.Common.{◌≡◌, ◌<◌, ◌++◌, length, drop, subst, ap, ◌∙◌, arith, rules}
use Rattle.std.proofs.lemmas.List.{length-take}
use Rattle.laying.specs.Filled.{HasRoom, Appends}
use Rattle.laying.specs.Tables.{board_copies, copies_in}
use Rattle.laying.proofs.Filled.{appends_more, room_left, filled}
use Rattle.laying.proofs.Sizes.{row_taken}
use Rattle.laying.proofs.tables.Tables.write_copies.Goals as goal

pub write_row-requires-clause-room : goal.write_row-requires-clause-room
write_row-requires-clause-room c =
    let t = c.args.self.now in
    let n = t.vertices in
    let p = c.loop-p.p in
    let start = c.new-out.result in
    let fits : HasRoom start (copies_in t.kept n t.boards) =
    omega (arith, c.requires, c.new-out.ensures.none, ap length c.new-out.ensures.kept)
    in
    let low : p < t.boards = omega (arith, c.loop-p-test.true, length-take t.boards t.kept) in
    rw (row_taken t.kept t.boards n p low)
    (room_left (board_copies t.kept n) p t.boards start c.loop-p.out low fits c.loop-p.invariant)

pub loop-p-preserved : goal.loop-p-preserved
loop-p-preserved c =
    let t = c.args.self.now in
    let n = t.vertices in
    let p = c.loop-p.p in
    let start = c.new-out.result in
    let fits : HasRoom start (copies_in t.kept n t.boards) =
    omega (arith, c.requires, c.new-out.ensures.none, ap length c.new-out.ensures.kept)
    in
    let low : p < t.boards = omega (arith, c.loop-p-test.true, length-take t.boards t.kept) in
    let then = c.write_row.new.out in
    let wrote = subst (Appends c.loop-p.out then) (row_taken t.kept t.boards n p low) c.write_row.ensures in
    appends_more (board_copies t.kept n) p t.boards start c.loop-p.out low fits then c.loop-p.invariant wrote

pub returns : goal.returns
returns c =
    let t = c.args.self.now in
    let start = c.new-out.result in
    let out = c.loop-p.out in
    let all : c.loop-p.p ≡ t.boards = omega (arith, length-take t.boards t.kept, t.few) in
    let appended = subst (λ p. Appends start out (copies_in t.kept t.vertices p)) all c.loop-p.invariant in
    let same = appended.same ∙ c.new-out.ensures.same in
    let laid = copies_in t.kept t.vertices t.boards in
    let written : out.out.now ≡ laid ++ drop (length laid) c.args.copies.now =
    filled start out c.args.copies.now laid c.new-out.ensures.none c.new-out.ensures.kept appended
    in
    search rules
