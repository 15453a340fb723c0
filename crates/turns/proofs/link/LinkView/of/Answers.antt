-- The edges of a plan name its copies.
use Rattle.std.proofs.Common.{length, arith}
use Rattle.plan.proofs.Plans.{boards_within}
use Rattle.protocol.proofs.Fitting.{links_fit}
use Rattle.turns.proofs.link.LinkView.of.Goals as goal

pub invariant_of-result : goal.invariant_of-result
invariant_of-result c =
    let plan = c.args.plan.now in
    let few = (boards_within plan.boards plan.copies.now plan.edges.now plan.sound).1 in
    rw (c.edges_between.ensures, c.edges_between-2.ensures, c.copies.ensures) record {
      boards = (omega (arith, few), omega (arith, few));
      fit = links_fit plan.boards plan.copies.now plan.edges.now plan.sound (length plan.copies.now) (omega arith)
          c.args.from c.args.to;
    }
