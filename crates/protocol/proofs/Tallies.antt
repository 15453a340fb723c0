-- The tally of a run counts the items accepted.
use Rattle.std.proofs.Common.{◌≡◌, ℕ, zero, suc, ◌+◌, ◌-◌, ◌<◌, ◌≤◌, cond, eqb, List, sym}
use Rattle.std.proofs.Common.{refl, ap, ◌∙◌, inl, inr, arith}
use Rattle.std.proofs.lemmas.Bool.{cases_eq, eq-eqb, ne_eqb}
use Rattle.element.specs.Algebra.{Algebra}
use Rattle.scene.specs.Cells.{Scene}
use Rattle.plan.specs.Links.{Shape}
use Rattle.protocol.specs.Turns.{State, Turned, sum_others}
use Rattle.protocol.specs.Books.{Book}
use Rattle.protocol.specs.Runs.{Moment, Run, fresh, turn, call, seen, laid, accepted_in, counts}
use Rattle.protocol.proofs.Turning.{j_grows}
use Rattle.plan.specs.Sums.{sum_below}
use Rattle.plan.proofs.Orders.{sum_same}
use Rattle.protocol.proofs.Pairs.{over_links, sum_add, sum_grows_at, sum_zero}

none_accepted : (n : ℕ) (j : ℕ → ℕ → ℕ) → ((a b : ℕ) → j a b ≡ 0) → over_links n j ≡ 0
none_accepted n j h =
    let row = λ (a : ℕ). sum_same n (λ b. cond (eqb a b) 0 (j a b)) (λ _. 0) (λ b lb. none a b) ∙ sym (sum_zero n) in
    sum_same n _ (λ _. 0) (λ a la. row a) ∙ sym (sum_zero n)
  where
    none : (a b : ℕ) → cond (eqb a b) 0 (j a b) ≡ 0
    none a b = elim (cases_eq a b) [ inl e ↦ rw (eq-eqb a b e) | inr d ↦ rw (ne_eqb a b d) (h a b) ]

-- a turn of p raises the accepted items by what p accepts
module _ {M : Type 0} (A : Algebra M) (S : Shape) (s u : State M) (p : ℕ) (t : Turned A S s u p)
    (pb : p < S.boards) where
  from_one : (a : ℕ) → a < S.boards
      → sum_below S.boards (λ b. cond (eqb a b) 0 (u.j a b))
      ≡ sum_below S.boards (λ b. cond (eqb a b) 0 (s.j a b)) + cond (eqb a p) 0 (u.j a p - s.j a p)
  from_one a la = elim (cases_eq a p) [
    | inl e ↦
        let same = sum_same S.boards (λ b. cond (eqb a b) 0 (u.j a b)) (λ b. cond (eqb a b) 0 (s.j a b))
        (λ b l. ap (λ x. cond (eqb a b) 0 x) (t.j_rest a b (inr (inl e)))) in
        rw (eq-eqb a p e) (omega (arith, same))
    | inr d ↦
        let here = ne_eqb a p d in
        let le : cond (eqb a p) 0 (s.j a p) ≤ cond (eqb a p) 0 (u.j a p) = rw here (j_grows A S s u p t a p) in
        let bump = sum_grows_at S.boards
        (λ b. cond (eqb a b) 0 (s.j a b)) (λ b. cond (eqb a b) 0 (u.j a b)) p pb le
        (λ b n. ap (λ x. cond (eqb a b) 0 x) (t.j_rest a b (inl n))) in
        rw here (rw here at bump)
  ]

  accepted_more : over_links S.boards u.j
      ≡ over_links S.boards s.j + sum_others p S.boards (λ q. u.j q p - s.j q p)
  accepted_more =
      sum_same S.boards _ _ from_one
      ∙ sum_add S.boards _ _
      ∙ ap (λ x. over_links S.boards s.j + x) (along S.boards)
    where
      along : (n : ℕ) → sum_below n (λ a. cond (eqb a p) 0 (u.j a p - s.j a p))
          ≡ sum_others p n (λ q. u.j q p - s.j q p)
      along zero = refl
      along (suc n) = ap (λ x. x + cond (eqb n p) 0 (u.j n p - s.j n p)) (along n)

module _ {M : Type 0} (A : Algebra M) (s : Scene) where
  pub accepted_counted : {ts : List ℕ} {m : Moment M} {book : Book} {l : ℕ} → Run A s ts m book l
      → m.tally.accepted ≡ over_links s.boards (accepted_in m.links)
  accepted_counted (fresh {m} f) =
      ap (λ x. x.accepted) f.no_turns
      ∙ sym (none_accepted s.boards (accepted_in m.links) (λ a b. ap (λ x. x.j) (f.no_counts a b)))
  accepted_counted (turn {ts} {m} {book} {l} p m' r t) =
      let now = counts A (laid A s) (seen A m) (seen A m') p in
      let more = accepted_more A (laid A s) (seen A m) (seen A m') p t.turned t.below in
      ap (λ x. x.accepted) t.counted ∙ ap (λ x. x + now.accepted) (accepted_counted r) ∙ sym more
  accepted_counted (call c r) = accepted_counted r
