-- Copy by copy.
use Rattle.std.proofs.Common.{◌≡◌, ◌≤◌, ◌++◌, List, length, get_or, drop, set, sym, subst, ◌∙◌, ap₂, Bor, arith}
use Rattle.scene.specs.Sums.{own_sum}
use Rattle.scene.specs.Views.{viewed}
use Rattle.plan.specs.Links.{no_copy}
use Rattle.plan.specs.declared.records.CopyRecord.{CopyRecord}
use Rattle.sums.specs.Sums.{loaded_copies}
use Rattle.sums.proofs.OwnSums.{copy_low, load_has_room, over_more, over_all}
use Rattle.sums.proofs.sums.set_own_sums.Goals as goal

pub of_copy-requires : goal.of_copy-requires
of_copy-requires g c =
    copy_low c.args.plan.now c.copies-record-items.result c.copies-record-items.ensures c.loop-n.n
    c.loop-n-test.true

pub loop-n-preserved : goal.loop-n-preserved
loop-n-preserved g c =
    let records = c.copies-record-items.result in
    let n = c.loop-n.n in
    let copy = get_or records.now n no_copy in
    let low = copy_low c.args.plan.now records c.copies-record-items.ensures n c.loop-n-test.true in
    ap₂ (λ cs x. set cs n x) c.loop-n.invariant
    (c.of_copy.ensures ∙ c.of_scene-sums.ensures copy.board copy.vertex low.0 low.1)
    ∙ over_more (λ (r : CopyRecord). own_sum g.E.Element.algebra (viewed c.args.scene.now) r.board r.vertex)
    records.now c.args.copies.now n no_copy c.loop-n-test.true
    (subst (λ (rs : Bor (List CopyRecord)). length rs.now ≤ length c.args.copies.now)
    (sym c.copies-record-items.ensures)
    (load_has_room g.E.Element.algebra (viewed c.args.scene.now) c.args.plan.now.copies.now c.args.copies.now c.requires))

pub returns : goal.returns
returns g c =
    let A = g.E.Element.algebra in
    let scene = viewed c.args.scene.now in
    subst (λ (rs : Bor (List CopyRecord)).
    c.loop-n.copies ≡ loaded_copies A scene rs.now ++ drop (length rs.now) c.args.copies.now)
    c.copies-record-items.ensures
    (c.loop-n.invariant
    ∙ over_all (λ (r : CopyRecord). own_sum A scene r.board r.vertex) c.copies-record-items.result.now
    c.args.copies.now c.loop-n.n (omega arith))
