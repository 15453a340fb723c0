-- Two media that the same calls led to, each from where the other's twin began.
use Rattle.std.specs.Prelude.{◌≡◌, ℕ, List, [], ◌∷◌, ◌++◌}
use Rattle.std.proofs.Common.{sym, ap, subst, ◌∙◌}
use Rattle.medium.specs.Appending.{appended_twice}
use Rattle.medium.specs.Calls.{Rules, Call, put_call, Leads, Calls, no_call, one_call, LooksLike}
use Rattle.medium.specs.Lanes.{appended}
use Rattle.medium.specs.Puts.{Doubled}
use Rattle.medium.specs.declared.frame.Frame.{Frame}

-- each of two puts leads on
pub both_puts_lead : {M : Type 0} (R : Rules M) (m n : M) (from to : ℕ) (f : Frame) (k : ℕ)
    → R.lanes n ≡ appended (R.lanes m) from to f k → (v : Doubled R.lanes R.puts m from to f k n)
    → Leads R (put_call from to f) m v.between × Leads R (put_call from to f) v.between n
both_puts_lead R m n from to f k after v =
    let after_two =
    after
    ∙ ap (appended (R.lanes m) from to f) v.sum
    ∙ sym (appended_twice (R.lanes m) from to f v.one v.two)
    ∙ ap (λ l. appended l from to f v.two) (sym v.after_one) in
    ((v.one, v.after_one, v.earlier), (v.two, after_two, v.later))

module _ {M N : Type 0} (R : Rules M) (S : Rules N) (m : M) (n : N) where
  -- some one list of calls leads to both
  pub record BothLed (a : M) (b : N) : Type 0 where
    pub calls : List Call
    pub first : Calls R m calls a
    pub second : Calls S n calls b

  pub none_made : BothLed m n
  none_made = record { calls = []; first = no_call; second = no_call }

  pub led_on : (c : Call) (a a' : M) (b b' : N) → BothLed a b → Leads R c a a' → Leads S c b b' → BothLed a' b'
  led_on c a a' b b' led one two = record {
    calls = led.calls ++ c ∷ [];
    first = one_call led.calls c a a' led.first one;
    second = one_call led.calls c b b' led.second two;
  }

  pub led_same : (a a' : M) (b b' : N) → BothLed a b → a' ≡ a → b' ≡ b → BothLed a' b'
  led_same a a' b b' led one two = record {
    calls = led.calls;
    first = subst (λ x. Calls R m led.calls x) (sym one) led.first;
    second = subst (λ x. Calls S n led.calls x) (sym two) led.second;
  }

  pub led_equal : LooksLike R m S n → (a : M) (b : N) → BothLed a b → R.lanes a ≡ S.lanes b
  led_equal like a b led = like led.calls a b led.first led.second
