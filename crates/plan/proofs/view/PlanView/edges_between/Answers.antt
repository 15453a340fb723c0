-- No plan has edges of boards past its count.
use Rattle.std.proofs.Common.{sym, inl, inr, arith}
use Rattle.plan.proofs.Plans.{boards_within, between_past_from, between_past_to}
use Rattle.plan.proofs.view.PlanView.edges_between.Goals as goal

pub returns-then-p-ge8 : goal.returns-then-p-ge8
returns-then-p-ge8 c =
    let v = c.args.self.now in
    let few = boards_within v.boards v.copies.now v.edges.now v.sound in
    sym (elim c.then-p-ge8.either [
      | inl past ↦ between_past_from v.boards v.copies.now v.edges.now v.sound c.args.p c.args.q (omega arith)
      | inr past ↦ between_past_to v.boards v.copies.now v.edges.now v.sound c.args.p c.args.q (omega (arith, past.1))
    ])
