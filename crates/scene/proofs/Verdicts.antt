-- The first broken rule of lists put together, and of a list for each number of a range.
use Rattle.std.proofs.Common.{◌≡◌, ℕ, suc, ◌+◌, ◌-◌, ◌<◌, true, false, cond, ◌&&◌, List, [], ◌∷◌, ◌++◌, is_ok}
use Rattle.std.proofs.Common.{◌≤◌, IsErr, IsErrAnd, Ok, Err, Result, Option, None, Some}
use Rattle.std.proofs.Common.{sym, refl, ap, subst, ◌∙◌, arith}
use Rattle.std.specs.List.{FoldsTo, range_with_len, flat_map}
use Rattle.std.proofs.lemmas.Result.{err_from_is_err_and}
use Rattle.std.specs.Iterator.{Yields, TryForEachTurn, TryCallsOnEach}
use Rattle.std.specs.Option.{MatchOption}
use Rattle.std.specs.Result.{result_from_control_flow}
use Rattle.std.specs.declared.ops.Range.{Range}
use Rattle.std.specs.Range.{range_steps}
use Rattle.std.specs.declared.ops.ControlFlow.TheVariants.{Break}
use Rattle.std.specs.Fn.{Mut, Called}
use Rattle.scene.specs.declared.fault.RecordFault.{RecordFault}
use Rattle.scene.specs.declared.fault.SceneFault.{SceneFault}
use Rattle.scene.specs.declared.fault.Broken.{Broken}
use Rattle.scene.specs.declared.head.Head.{Head}
use Rattle.scene.specs.Rules.{Rule, all_hold, verdict, in_record, broken, head_of, header_rules}

abbrev pub Verdict : Type 0 → Type 0
Verdict F = Result (Unit {0}) F

-- the first of two verdicts that is a fault
abbrev pub after : {F : Type 0} → Verdict F → Verdict F → Verdict F
after (Ok u) v = v
after (Err f) v = Err f

pub verdict_append : {F : Type 0} (xs ys : List (Rule F)) → verdict (xs ++ ys) ≡ after (verdict xs) (verdict ys)
verdict_append [] ys = refl
verdict_append {F} (r ∷ rs) ys =
    elim r.0 as
    (λ t. cond t (verdict (rs ++ ys)) (Err r.1) ≡ after (cond t (verdict rs) (Err r.1)) (verdict ys))
    [ true ↦ verdict_append rs ys | false ↦ refl ]

pub past : {F : Type 0} (xs ys : List (Rule F)) → Ok tt ≡ verdict xs → verdict ys ≡ verdict (xs ++ ys)
past xs ys ok = sym (verdict_append xs ys ∙ ap (λ v. after v (verdict ys)) (sym ok))

pub stopped : {F : Type 0} (xs ys : List (Rule F)) (e : F) → Err e ≡ verdict xs → Err e ≡ verdict (xs ++ ys)
stopped xs ys e bad = sym (verdict_append xs ys ∙ ap (λ v. after v (verdict ys)) (sym bad))

-- the scene's fault for what the reader of a record answers
abbrev pub raised : {T : Type 0} → Result T Broken → Verdict SceneFault
raised (Ok x) = Ok tt
raised (Err b) = Err (record { «record» = b.number; fault = b.fault })

pub verdict_in_record : (n : ℕ) (rs : List (Rule RecordFault))
    → raised (broken n (verdict rs)) ≡ verdict (in_record n rs)
verdict_in_record n [] = refl
verdict_in_record n (r ∷ rs) =
    let e : SceneFault = record { «record» = n; fault = r.1 } in
    elim r.0 as
    (λ t. raised (broken n (cond t (verdict rs) (Err r.1))) ≡ cond t (verdict (in_record n rs)) (Err e))
    [ true ↦ verdict_in_record n rs | false ↦ refl ]

-- a record's check that found v, which is what the record's rules come to
module _ (n : ℕ) (rs : List (Rule RecordFault)) (v : Verdict RecordFault) (is : v ≡ verdict rs) where
  pub record_passed : Ok tt ≡ broken n v → Ok tt ≡ verdict (in_record n rs)
  record_passed ok = ap raised (ok ∙ ap (broken n) is) ∙ verdict_in_record n rs

  pub record_stopped : (b : Broken) → Err b ≡ broken n v
      → Err (record { «record» = b.number; fault = b.fault }) ≡ verdict (in_record n rs)
  record_stopped b bad = ap raised (bad ∙ ap (broken n) is) ∙ verdict_in_record n rs

-- what the reader of a header answers, which is what the header says or what its rules come to
abbrev pub ReadsHeader : List ℕ → Result Head RecordFault → Type 0
ReadsHeader b (Ok h) = (h ≡ head_of b) × (Ok tt ≡ verdict (header_rules b))
ReadsHeader b (Err f) = Err f ≡ verdict (header_rules b)

module _ (b : List ℕ) where
  pub header_passed : (r : Result Head RecordFault) → ReadsHeader b r → (h : Head) → Ok h ≡ broken 0 r
      → (h ≡ head_of b) × (Ok tt ≡ verdict (in_record 0 (header_rules b)))
  header_passed (Ok g) is h ok = (
    ap (λ r. elim r [ Ok x ↦ x | Err _ ↦ h ]) ok ∙ is.0,
    ap (λ v. raised (broken 0 v)) is.1 ∙ verdict_in_record 0 (header_rules b),
  )
  header_passed (Err f) is h ok = let no : ⊥ = grind arith in absurd no

-- no fault is found exactly if all rules hold
pub verdict_ok : {F : Type 0} (rs : List (Rule F)) → all_hold rs ≡ is_ok (verdict rs)
verdict_ok [] = refl
verdict_ok (r ∷ rs) =
    elim r.0 as (λ t. (t && all_hold rs) ≡ is_ok (cond t (verdict rs) (Err r.1)))
    [ true ↦ verdict_ok rs | false ↦ refl ]

-- what the exit of a `?` returns
pub exit_is : {T E : Type 0} (r : Result T E) (e : E) → IsErrAnd r (λ y. y ≡ e) → r ≡ Err e
exit_is r e h = let p = err_from_is_err_and r h in p.1 ∙ ap Err p.2

-- what the rules for the numbers from i on, below k, come to
abbrev pub from : {F : Type 0} → (ℕ → List (Rule F)) → ℕ → ℕ → Verdict F
from f i k = verdict (flat_map f (range_with_len i (k - i)))

module _ {F : Type 0} (f : ℕ → List (Rule F)) where
  pub from_more : (i k : ℕ) → i < k → from f i k ≡ after (verdict (f i)) (from f (i + 1) k)
  from_more i k h =
      let more : k - i ≡ suc (k - (i + 1)) = omega arith in
      ap (λ n. verdict (flat_map f (range_with_len i n))) more
      ∙ verdict_append (f i) (flat_map f (range_with_len (i + 1) (k - (i + 1))))

-- the calls of `next` on a range of numbers
abbrev counting : Range ℕ → Option ℕ → Range ℕ → Type 0
counting = range_steps (λ i k. k - i) (λ i k. k ≡ i + 1)

-- a check made for each number of a range, until one finds a fault, which r then is
module _ {F E : Type 0} (g : Mut F (ℕ × Unit {0}) (Verdict E)) (f : F) (rules : ℕ → List (Rule E)) (r : Verdict E) where
  -- each check leaves f as it was, and comes to its number's rules
  abbrev Each : Range ℕ → Type 0
  Each s =
      (n : ℕ) (v : Verdict E) (h : F) → s.start ≤ n → n < s.end → Called g f (n, tt) v h
      → (h ≡ f) × (v ≡ verdict (rules n))

  abbrev Passes : F → ℕ → F → Type 0
  Passes = TryForEachTurn g (λ v c. v ≡ result_from_control_flow c)

  abbrev End : F → Option ℕ → Type 0
  End q o =
      MatchOption o (r ≡ Ok tt)
      (λ n. (v : Verdict E) × (h : F) × (x : _) × Called g q (n, tt) v h × (v ≡ result_from_control_flow (Break x))
      × (IsErr r × IsErrAnd r (λ y. y ≡ x.0)))

  first_of : (xs : List ℕ) (s t u : Range ℕ) (q : F) (o : Option ℕ) → Yields counting s xs t → counting t o u
      → FoldsTo Passes f xs q → End q o → Each s → r ≡ from rules s.start s.end
  first_of [] s t u q None y p c m each =
      let none : s.end - s.start ≡ 0 = omega (arith, p.1.0, ap (λ k. k.start) y, ap (λ k. k.end) y) in
      m ∙ sym (ap (λ n. verdict (flat_map rules (range_with_len s.start n))) none)
  first_of [] s t u q (Some x) y p c m each =
      let at : x ≡ s.start = p.1.1 ∙ ap (λ k. k.start) (sym y) in
      let less : s.start < s.end = omega (arith, p.1.0, ap (λ k. k.start) y, ap (λ k. k.end) y) in
      let call = subst (λ n. Called g q (n, tt) m.0 m.1) at m.3 in
      let same = subst (λ k. Called g k (s.start, tt) m.0 m.1) (sym c) call in
      let is = (each s.start m.0 m.1 (omega arith) less same).1 in
      exit_is r _ m.5.1
      ∙ sym (from_more rules s.start s.end less
      ∙ ap (λ w. after w (from rules (s.start + 1) s.end)) (sym is ∙ m.4))
  first_of (x ∷ xs) s t u q o y p c m each =
      let less : s.start < s.end = omega (arith, y.1.1.0) in
      let call = subst (λ n. Called g f (n, tt) c.1.0 c.0) y.1.1.1 c.1.1 in
      let got = each s.start c.1.0 c.0 (omega arith) less call in
      first_of xs y.0 t u q o y.2 p (subst (λ k. FoldsTo Passes k xs q) got.0 c.2) m
      (λ n v h a b. each n v h (omega (arith, a, y.1.1.2)) (omega (arith, b, y.1.0)))
      ∙ ap (λ k. from rules k y.0.end) y.1.1.2
      ∙ ap (from rules (s.start + 1)) y.1.0
      ∙ sym (from_more rules s.start s.end less
      ∙ ap (λ w. after w (from rules (s.start + 1) s.end)) (sym got.1 ∙ c.1.2))

  pub tried_each : (s u : Range ℕ)
      → TryCallsOnEach counting g (λ v c. v ≡ result_from_control_flow c)
      (λ x w. IsErr w × IsErrAnd w (λ y. y ≡ x.0)) s f r u
      → Each s → r ≡ from rules s.start s.end
  tried_each s u d each = first_of d.0 s d.3.0 u d.2 d.1 d.3.1 d.3.2 d.4 d.5 each
