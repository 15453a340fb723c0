-- A script hides nothing of the medium below it, and adds no more than the number of the next put.
use Rattle.std.specs.Prelude.{◌≡◌, ℕ, ◌+◌, ◌%◌, ◌<◌, ◌≤◌, List, [], ◌∷◌, ◌++◌, length, count_by}
use Rattle.std.proofs.Common.{sym, ap, ◌∙◌, inl, inr, subst, arith}
use Rattle.std.proofs.Math.Nat.{mod-add-mod}
use Rattle.std.proofs.lemmas.Bool.{cases_eq}
use Rattle.std.proofs.lemmas.List.Elements.{All-get_or}
use Rattle.std.proofs.lemmas.List.Sums.{sum_by-append}
use Rattle.medium.specs.Calls.{Rules, Call, take_call, put_call, Leads, Calls, no_call, one_call, LooksLike, is_put}
use Rattle.medium.specs.Fates.{entry, entry_after, script_table}
use Rattle.medium.specs.Lanes.{appended}
use Rattle.medium.specs.Puts.{Scripted}
use Rattle.medium.specs.Scripts.{below_script, next_of, script_rules, FollowsTheTable}
use Rattle.medium.specs.declared.frame.Frame.{Frame}
use Rattle.medium.specs.declared.script.Script.{Script}
use Rattle.medium.proofs.Alike.{alike}
use Rattle.medium.proofs.Layers.{BothLed, none_made, led_on, led_same, led_equal, both_puts_lead}

-- no other code is in the table
entry_few : (n : ℕ) → n < length script_table → entry n ≤ 2
entry_few n within = All-get_or (λ x. x ≤ 2) script_table n 0 within (search arith)

module _ {M N : Type 0} (R : Rules M) (S : Rules N) (m : M) (n : N) where
  -- what one code makes of two media that the same calls led to
  put_led : (code : ℕ) → code ≤ 2 → (from to : ℕ) (f : Frame) (a a' : M) (b b' : N) → BothLed R S m n a b
      → (k : ℕ) → R.lanes a' ≡ appended (R.lanes a) from to f k → Scripted R.lanes R.puts code a from to f k a'
      → (k' : ℕ) → S.lanes b' ≡ appended (S.lanes b) from to f k' → Scripted S.lanes S.puts code b from to f k' b'
      → BothLed R S m n a' b'
  put_led code few from to f a a' b b' led k after r k' after' r' =
      let put = put_call from to f in
      elim (cases_eq code 0) [
        | inl e ↦ led_on R S m n put a a' b b' led (k, after, r.passed e) (k', after', r'.passed e)
        | inr d ↦ elim (cases_eq code 1) [
          | inl e ↦ led_same R S m n a a' b b' led (r.dropped e).1 (r'.dropped e).1
          | inr c ↦
              let e : code ≡ 2 = omega arith in
              let v = r.doubled e in
              let w = r'.doubled e in
              let (one, two) = both_puts_lead R a a' from to f k after v in
              let (one', two') = both_puts_lead S b b' from to f k' after' w in
              led_on R S m n put v.between a' w.between b'
              (led_on R S m n put a v.between b w.between led one one') two two'
        ]
      ]

module _ {M N : Type 0} (R : Rules M) (S : Rules N) (m : M) (n : N) where
  -- the next numbers are the same, and some one list of calls led to both media below
  abbrev Same : Script M → Script N → Type 0
  Same s t = (next_of s ≡ next_of t) × BothLed R S m n (below_script s) (below_script t)

  kept : (c : Call) (s : Script M) (t : Script N) (s' : Script M) (t' : Script N) → Same s t
      → Leads (script_rules R) c s s' → Leads (script_rules S) c t t' → Same s' t'
  kept (take_call from to) s t s' t' (nexts, led) (after, (stays, took)) (after', (stays', took')) = (
    stays ∙ nexts ∙ sym stays',
    led_on R S m n (take_call from to) s.below s'.below t.below t'.below led (after, took) (after', took'),
  )
  kept (put_call from to f) s t s' t' (nexts, led) (k, after, (moves, r)) (k', after', (moves', r')) = (
    moves ∙ ap entry_after nexts ∙ sym moves',
    put_led R S m n (entry s.next) (entry_few s.next s.ok) from to f s.below s'.below t.below t'.below led k after r
        k' after' (subst (λ i. Scripted S.lanes S.puts (entry i) t.below from to f k' t'.below) (sym nexts) r'),
  )

-- scripts with the same next number look alike if the media below do
pub scripts_alike : {M N : Type 0} (R : Rules M) (S : Rules N) (s : Script M) (t : Script N)
    → next_of s ≡ next_of t → LooksLike R (below_script s) S (below_script t)
    → LooksLike (script_rules R) s (script_rules S) t
scripts_alike R S s t nexts like =
    alike (script_rules R) (script_rules S) (Same R S s.below t.below)
    (λ a b same. led_equal R S s.below t.below like a.below b.below same.1) (kept R S s.below t.below) s t
    (nexts, none_made R S s.below t.below)

-- one call more, at the end
count_on : (cs : List Call) (c : Call) → count_by is_put (cs ++ c ∷ []) ≡ count_by is_put cs + count_by is_put (c ∷ [])
count_on cs c = sum_by-append _ cs (c ∷ [])

-- the next number is the number of puts so far, modulo the table's length
numbers : {M : Type 0} (R : Rules M) (s : Script M) → next_of s ≡ 0 → (cs : List Call) (t : Script M)
    → Calls (script_rules R) s cs t → next_of t ≡ count_by is_put cs % length script_table
numbers R s first cs t no_call = first
numbers R s first cs t (one_call bs (take_call from to) r u before (after, (stays, _))) =
    stays ∙ numbers R s first bs r before
    ∙ ap (λ n. n % length script_table) (omega (arith, count_on bs (take_call from to)))
numbers R s first cs t (one_call bs (put_call from to f) r u before (k, after, (moves, _))) =
    moves
    ∙ ap entry_after (numbers R s first bs r before)
    ∙ mod-add-mod (count_by is_put bs) (length script_table) 1
    ∙ ap (λ n. n % length script_table) (sym (count_on bs (put_call from to f)))

pub follows_the_table : {M : Type 0} (R : Rules M) (s : Script M) → next_of s ≡ 0 → FollowsTheTable R s
follows_the_table R s first cs t u from to f k calls (_, r) =
    let at = numbers R s first cs t calls in
    subst (λ n. Scripted R.lanes R.puts (entry n) t.below from to f k u.below) at r
