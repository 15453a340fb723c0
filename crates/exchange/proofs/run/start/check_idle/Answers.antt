-- The first lane in which a frame waits, or none up to the last.
use Rattle.std.proofs.Common.{◌≡◌, ℕ, ◌/◌, ◌%◌, Bool, true, false, ltb, length, Some, None, refl, rules, arith}
use borrow.Author.Tests.{tests}
use Rattle.std.proofs.lemmas.Bool.{ltb-true, ltb-false}
use Rattle.std.proofs.lemmas.Iterator.{first_from_Range}
use Rattle.std.proofs.lemmas.List.{nil_from_length}
use Rattle.exchange.proofs.run.start.check_idle.Goals as goal

pub returns-in-Some-clause-err : goal.returns-in-Some-clause-err
returns-in-Some-clause-err g c =
    let lanes = g.D.Medium.lanes c.args.medium.now in
    let waits : ℕ → Bool = λ k. ltb 0 (length (lanes (k / 8) (k % 8))) in
    let found = first_from_Range _ _ _ (Some c.in-Some.k) (λ k. waits k ≡ true) (λ k. waits k ≡ false)
    c.in-Some.ensures.ran (λ i q k. search (rules, tests)) (λ i q k. search (rules, tests)) in (
      c.in-Some.k,
      record {
        a_lane = found.1;
        idle = λ m l. nil_from_length _ (omega (arith, ltb-false _ _ (found.3 m (omega arith) l)));
        waits = ltb-true _ _ found.2;
      },
      refl,
    )

pub returns-in-None-clause-ok : goal.returns-in-None-clause-ok
returns-in-None-clause-ok g c =
    let lanes = g.D.Medium.lanes c.args.medium.now in
    let waits : ℕ → Bool = λ k. ltb 0 (length (lanes (k / 8) (k % 8))) in
    let none = first_from_Range _ _ _ None (λ k. waits k ≡ true) (λ k. waits k ≡ false)
    c.in-None.ensures.ran (λ i q k. search (rules, tests)) (λ i q k. search (rules, tests)) in
    λ m l. nil_from_length _ (omega (arith, ltb-false _ _ (none m (omega arith) l)))
