-- The bytes' own scene and its laid plan are run; or the line tells why not.
use Rattle.std.proofs.Common.{◌≡◌, true, refl, ap, subst}
use Rattle.std.proofs.lemmas.Result.{err_from_is_err_and}
use Rattle.medium.specs.Calls.{rules_of}
use Rattle.scene.specs.Cells.{Scene}
use Rattle.scene.specs.Layout.{scene_of}
use Rattle.scene.specs.Rules.{admits}
use Rattle.scene.specs.Views.{viewed}
use Rattle.scene.proofs.Viewing.{view_sound}
use Rattle.cabinet.specs.Listed.{KindTold}
use Rattle.cabinet.proofs.Pages.{paged_weaker}
use Rattle.cabinet.proofs.Told.{laid_in_front, run_told, refusal_told}
use Rattle.cabinet.proofs.listed.list_scene.Goals as goal

pub list_plan-requires-clause-laid : goal.list_plan-requires-clause-laid
list_plan-requires-clause-laid g c =
    let prepared = c.in_ok-counts.ensures in
    let same : viewed c.prepare.new.scene ≡ scene_of c.args.bytes.now =
    ap (λ b. scene_of b.now) prepared.0 in
    laid_in_front (viewed c.prepare.new.scene) (scene_of c.args.bytes.now) c.in_ok-counts.counts _
    c.prepare.new.copies _ c.prepare.new.edges (view_sound c.prepare.new.scene) same prepared.1

pub returns : goal.returns
returns g c =
    let prepared = c.in_ok-counts.ensures in
    let same : viewed c.prepare.new.scene ≡ scene_of c.args.bytes.now =
    ap (λ b. scene_of b.now) prepared.0 in
    let R = rules_of g.D.Medium.lanes g.D.Medium.takes g.D.Medium.puts in
    let ok : admits c.args.bytes.now ≡ true =
    subst (λ b. admits b ≡ true) (ap (λ x. x.now) prepared.0) c.prepare.new.scene.ok in
    paged_weaker c.list_plan.result _ _ (λ page told. run_told R c.args.bytes.now c.args.medium page ok
    prepared.1.copy_room prepared.1.edge_room
    (subst (λ (s : Scene). KindTold R s c.args.medium page) same told)) c.list_plan.ensures

pub returns-in_err-counts : goal.returns-in_err-counts
returns-in_err-counts g c =
    let failed = err_from_is_err_and c.from_residual.result c.from_residual.ensures.1 in
    rw (failed.1, failed.2) (refusal_told (rules_of g.D.Medium.lanes g.D.Medium.takes g.D.Medium.puts)
    c.args.bytes.now c.args.medium _ _ _ refl refl
    c.in_err-counts.ensures.hindered)
