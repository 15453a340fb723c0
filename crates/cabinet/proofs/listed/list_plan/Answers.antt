-- A laid plan is not refused.
use Rattle.std.proofs.Common.{sym, ap, ◌∙◌}
use Rattle.std.proofs.lemmas.Bool.{both_ways}
use Rattle.plan.specs.Sound.{sound_plan}
use Rattle.scene.specs.Views.{viewed}
use Rattle.cabinet.proofs.Told.{laid_plan_accepted}
use Rattle.cabinet.proofs.listed.list_plan.Goals as goal

pub returns-in_err-take : goal.returns-in_err-take
returns-in_err-take g c =
    let s = viewed c.args.scene.now in
    let records = c.args.copies.now in
    let edges = c.args.edges.now in
    absurd (both_ways (sound_plan s.boards records edges)
    (sym (c.in_err-take.ensures.accepts ∙ ap (λ b. sound_plan b records edges) c.boards.ensures))
    (laid_plan_accepted s s.boards records edges c.requires.laid))
