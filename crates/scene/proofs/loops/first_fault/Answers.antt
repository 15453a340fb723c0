-- A check leaves itself as it was, so each number's check comes to that number's rules.
use Rattle.std.proofs.Common.{rules}
use Rattle.std.proofs.lemmas.Iterator.{serves_from_Range}
use Rattle.scene.proofs.Verdicts.{tried_each}
use Rattle.scene.proofs.loops.first_fault.Goals as goal

pub try_for_each-requires-clause-callable : goal.try_for_each-requires-clause-callable
try_for_each-requires-clause-callable g c =
    serves_from_Range (λ x q k. g.met.F.Fn.1.step_stays _ _ _ _ k.1) (λ x low high. search rules)

pub returns : goal.returns
returns g c =
    λ rules each.
    tried_each _ c.args.check rules c.try_for_each.result c.args.numbers _ c.try_for_each.ensures.ran
    (λ n v h a b k.
    (g.met.F.Fn.1.step_stays _ _ _ _ k, each n v a b ((g.met.F.FnMut.1.post_iff _ _ _).1 (h, k))))
