-- What is listed is where the circles led to.
use Rattle.std.proofs.Common.{◌≡◌, ◌≤◌, ◌++◌, [], length, take, vec_items, ap, ◌∙◌, subst, arith}
use Rattle.std.proofs.lemmas.List.{length-take}
use Rattle.std.proofs.lemmas.Result.{IfOk-weaker, err_from_is_err_and}
use Rattle.medium.specs.Calls.{rules_of}
use Rattle.scene.specs.Views.{viewed}
use Rattle.plan.specs.Links.{shape}
use Rattle.protocol.specs.Books.{blank}
use Rattle.exchange.specs.Going.{Kept}
use Rattle.circles.specs.Chains.{Snapshot, snapshot, moment_at, all_settled}
use Rattle.circles.specs.Circles.{SettleAnswers}
use Rattle.listing.specs.declared.lines.PlanNumbers.{PlanNumbers}
use Rattle.cabinet.specs.Listed.{fresh, circle_limit, started}
use Rattle.cabinet.specs.Pages.{head_page, boards_page, table_report}
use Rattle.cabinet.proofs.Runs.{run_listed, run_refused, same_numbers, same_start}
use Rattle.cabinet.proofs.listed.list_run.Goals as goal

pub returns : goal.returns
returns g c =
    let A = g.E.Element.algebra in
    let R = rules_of g.D.Medium.lanes g.D.Medium.takes g.D.Medium.puts in
    let s = viewed c.args.scene.now in
    let plan = c.args.plan.now in
    let records = plan.copies.now in
    let edges = plan.edges.now in
    let d = c.args.medium in
    let x = snapshot c.in_ok-turning.turning.tally c.begin.new.table.links c.begin.new.copies d in
    let y = snapshot c.settle_all.new.turning.tally c.settle_all.new.table.links c.settle_all.new.values c.settle_all.new.medium in
    let begun = c.in_ok-turning.ensures in
    let memory = take (length c.copies.result.now) c.args.values.now in
    let same_copies = ap (λ r. length r.now) c.copies.ensures in
    let room : length memory ≡ length records =
    omega (arith, length-take (length c.copies.result.now) c.args.values.now, same_copies, c.requires.room) in
    let started_so : x ≡ started A s d =
    same_start A s records (R.lanes d) d memory c.begin.new.copies c.new-table.result.links c.begin.new.table.links
    c.in_ok-turning.turning c.requires.laid.same_copies room begun.exact in
    let kept : Kept A s [] (moment_at R (started A s d)) blank 0 =
    subst (λ (z : Snapshot g.row.E.Denot g.row.D.Denot). Kept A s [] (moment_at R z) blank 0) started_so
    (begun.promise c.requires.laid) in
    let made = subst (λ (z : Snapshot g.row.E.Denot g.row.D.Denot).
    SettleAnswers A R plan.boards records edges (all_settled (shape plan.boards edges)) circle_limit z y
    c.settle_all.result) started_so c.settle_all.ensures in
    let n : PlanNumbers = record {
      boards = c.boards.result;
      overlap = c.overlap.result;
      kind = c.from.result;
      copies = length c.copies-2.result.now;
      edges = length c.edges.result.now;
    } in
    let same = same_numbers s records edges n c.boards.ensures c.overlap.ensures (c.from.ensures ∙ c.kind.ensures)
    (ap (λ r. length r.now) c.copies-2.ensures) (ap (λ r. length r.now) c.edges.ensures) in
    IfOk-weaker c.list_turned.result _ _ (λ page e. fresh begun.exact.1
    (run_listed A g.met.E.Element.lawful R s d y (vec_items page) kept c.settle_all.result plan.boards records edges
    c.requires.laid (
      made,
      e ∙ ap (λ k. head_page k y.tally
          ++ boards_page A (table_report plan.boards edges y.links) records y.copies plan.boards) same,
    ))) c.list_turned.ensures

pub returns-in_err-turning : goal.returns-in_err-turning
returns-in_err-turning g c =
    let records = c.args.plan.now.copies.now in
    let memory = take (length c.copies.result.now) c.args.values.now in
    let room : length records ≤ length memory = omega
    (arith, length-take (length c.copies.result.now) c.args.values.now, ap (λ r. length r.now) c.copies.ensures, c.requires.room) in
    let failed = err_from_is_err_and c.from_residual.result c.from_residual.ensures.1 in
    rw (failed.1, failed.2) (run_refused g.E.Element.algebra
    (rules_of g.D.Medium.lanes g.D.Medium.takes g.D.Medium.puts) (viewed c.args.scene.now) records c.args.medium
    memory c.begin.new.copies c.new-table.result.links c.begin.new.table.links _ c.requires.kind room
    c.in_err-turning.ensures.exact)
