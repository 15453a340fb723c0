-- No edge is of a link below the first.
use Rattle.std.proofs.Common.{◌≡◌, length, get_or, replicate, refl, sym, ap, subst, arith}
use Rattle.plan.specs.Starts.{link_number, edges_before}
use Rattle.plan.proofs.Orders.{none_below}
use Rattle.plan.proofs.rules.Records.link_starts.Goals as goal

pub loop-link-init : goal.loop-link-init
loop-link-init c =
    let edges = c.args.self.now.edges.now in (
      refl,
      λ x l. subst (λ k. get_or (replicate 65 0) k 0 ≡ edges_before edges k) (omega arith)
          (sym (ap length (none_below link_number edges))),
    )
