-- The promise, for every lawful type of elements.
use Rattle.element.specs.Algebra.{Algebra, Lawful}
use Rattle.protocol.specs.Promise.{EveryRunKeepsThePromise}
use Rattle.protocol.proofs.LaidPlan.{laid_plan, laid_plan_of_scene}
use Rattle.protocol.proofs.Promised.{every_run_keeps_the_promise}

pub promise_holds : {M : Type 0} (A : Algebra M) → Lawful A → EveryRunKeepsThePromise M A
promise_holds A law =
    every_run_keeps_the_promise A law (λ s ok. (laid_plan A law s ok, laid_plan_of_scene A law s ok))
