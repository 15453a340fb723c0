-- An ended run is one whose boards are all reported settled.
use Rattle.std.proofs.Common.{◌≤◌, ◌++◌, sym, ap, ◌∙◌, ap₂, arith}
use Rattle.std.proofs.lemmas.Result.{IfOk-weaker}
use Rattle.plan.specs.Links.{shape}
use Rattle.protocol.specs.Books.{lowest_unsettled}
use Rattle.protocol.specs.Runs.{accepted_in}
use Rattle.protocol.specs.declared.tally.Report.TheVariants.{Settled}
use Rattle.exchange.proofs.Shown.{all_reported}
use Rattle.cabinet.specs.Pages.{head_page, table_report}
use Rattle.cabinet.proofs.Pages.{same_reports}
use Rattle.cabinet.proofs.listed.list_turned.Goals as goal

pub returns-in-Ok : goal.returns-in-Ok
returns-in-Ok g c =
    let plan = c.args.plan.now in
    let links = c.args.table.now.links in
    let ended = c.in-Ok.ensures.exact in
    let all : plan.boards ≤ lowest_unsettled (shape plan.boards plan.edges.now) (accepted_in links)
    = omega (arith, ended.0) in
    IfOk-weaker c.list-page.result _ _ (λ _ e. e ∙ ap₂ ◌++◌ (ap (head_page c.args.numbers) ended.2)
    (same_reports g.E.Element.algebra plan.copies.now c.args.values.now (λ _. Settled)
    (table_report plan.boards plan.edges.now links) plan.boards
    (λ p l. sym (all_reported (shape plan.boards plan.edges.now) (accepted_in links) all p l))))
    c.list-page.ensures
