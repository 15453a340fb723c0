-- The lowest number that passes.
use Rattle.std.proofs.Common.{◌≡◌, ℕ, zero, suc, ◌<◌, ◌≤◌, Bool, true, false, cond, eqb, ltb, Some, None, Option}
use Rattle.std.proofs.Common.{sym, refl, ap, ◌∙◌, inl, inr, arith}
use Rattle.std.specs.Bool.{then_some}
use Rattle.std.specs.Option.{option_or}
use Rattle.std.proofs.lemmas.Bool.{cases_Bool, cases_eq, cases_lt, cond-true, cond-false, lt-ltb, le-ltb, ne_eqb}
use Rattle.std.proofs.lemmas.Bool.{false≢true}
use Rattle.std.proofs.lemmas.Bool.Decides.{nat_tests}
use Rattle.scene.specs.Cells.{Scene, Sound}
use Rattle.forest.specs.Forest.{lowest, owns_cell_on}
use Rattle.forest.proofs.Lowest.{lowest_passes, lowest_first, lowest_same}
use Rattle.forest.proofs.Owner.{owning_below}
use Rattle.laying.specs.Rows.{passes}
use Rattle.laying.specs.Tables.{lowest_below, owning}

-- below n the lowest number that passes is the one that there is
pub lowest_is : (t : ℕ → Bool) (n q : ℕ) → q < n → eqb (lowest t n) q ≡ passes (λ o. eqb o q) (lowest_below t n)
lowest_is t n q h =
    elim (cases_lt (lowest t n) n) [
      | inl l ↦
          let found = cond-true (ltb (lowest t n) n) (Some (lowest t n)) None (lt-ltb (lowest t n) n l) in
          sym (ap (passes (λ o. eqb o q)) found)
      | inr l ↦
          let none = cond-false (ltb (lowest t n) n) (Some (lowest t n)) None (le-ltb (lowest t n) n l) in
          ne_eqb (lowest t n) q (λ e. omega arith) ∙ sym (ap (passes (λ o. eqb o q)) none)
    ]

-- the least of a number found before, and one more
chosen : (m n : ℕ) (b : Bool)
    → let k = cond (ltb m n) m (cond b n (suc n)) in
    cond (ltb k (suc n)) (Some k) None ≡ option_or (cond (ltb m n) (Some m) None) (then_some b n)
chosen m n b = grind (arith, nat_tests)

or_none : {X : Type 0} (o : Option X) → option_or o None ≡ o
or_none None = refl
or_none (Some x) = refl

-- where no number from n on passes, the lowest below n is the lowest
pub lowest_further : (t : ℕ → Bool) (n m : ℕ) → n ≤ m → ((k : ℕ) → t k ≡ true → k < n)
    → lowest_below t m ≡ lowest_below t n
lowest_further t n zero h low =
    let none : zero ≡ n = omega arith in
    ap (lowest_below t) none
lowest_further t n (suc m) h low =
    elim (cases_eq (suc m) n) [
      | inl e ↦ ap (lowest_below t) e
      | inr d ↦
          let further : n ≤ m = omega arith in
          chosen (lowest t m) m (t m)
          ∙ elim (cases_Bool (t m)) [
            | inl e ↦ absurd (omega (arith, low m e))
            | inr e ↦ ap (λ b. option_or (lowest_below t m) (then_some b m)) e ∙ or_none (lowest_below t m)
          ]
          ∙ lowest_further t n m further low
    ]

-- a number that passes is the lowest if none below it does
pub lowest_found : (t : ℕ → Bool) (n k : ℕ) → k < n → t k ≡ true → ((j : ℕ) → j < k → t j ≡ false)
    → lowest_below t n ≡ Some k
lowest_found t n k h here none =
    let first = lowest_first t n k h here in
    let below : lowest t n < n = omega arith in
    let is : lowest t n ≡ k = elim (cases_lt (lowest t n) k) [
      | inl l ↦ absurd (false≢true (sym (none (lowest t n) l) ∙ lowest_passes t n below))
      | inr l ↦ omega arith
    ] in
    cond-true (ltb (lowest t n) n) (Some (lowest t n)) None (lt-ltb (lowest t n) n below) ∙ ap Some is

-- the lowest of the boards that own a cell on a vertex, among eight or among the scene's
pub owning_is : (s : Scene) → Sound s → (v : ℕ) (t : ℕ → Bool) → ((p : ℕ) → t p ≡ owns_cell_on s p v)
    → lowest_below t 8 ≡ owning s v
owning_is s ok v t is =
    lowest_further t s.boards 8 ok.few_boards (λ p e. owning_below s ok p v (sym (is p) ∙ e))
    ∙ ap
    (λ k. cond (ltb k s.boards) (Some k) None)
    (lowest_same t (λ p. owns_cell_on s p v) s.boards (λ p l. is p))
