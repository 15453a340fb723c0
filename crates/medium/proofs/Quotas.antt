-- A quota hides nothing of the medium below it, and adds no more than its limit.
use Rattle.std.specs.Prelude.{◌≡◌, ◌<◌, ◌≤◌, length}
use Rattle.std.proofs.Common.{sym, ap, ◌∙◌, inl, inr, arith}
use Rattle.std.proofs.lemmas.Bool.{cases_lt}
use Rattle.medium.specs.Calls.{Rules, Call, take_call, put_call, Leads, LooksLike, FillsEmptyLanes}
use Rattle.medium.specs.Quotas.{below_quota, limit_of, quota_rules}
use Rattle.medium.specs.declared.quota.Quota.{Quota}
use Rattle.medium.proofs.Alike.{alike}
use Rattle.medium.proofs.Layers.{BothLed, none_made, led_on, led_same, led_equal}

module _ {M N : Type 0} (R : Rules M) (S : Rules N) (m : M) (n : N) (like : LooksLike R m S n) where
  -- the limits are the same, and some one list of calls led to both media below
  abbrev Same : Quota M → Quota N → Type 0
  Same s t = (limit_of s ≡ limit_of t) × BothLed R S m n (below_quota s) (below_quota t)

  kept : (c : Call) (s : Quota M) (t : Quota N) (s' : Quota M) (t' : Quota N) → Same s t
      → Leads (quota_rules R) c s s' → Leads (quota_rules S) c t t' → Same s' t'
  kept (take_call from to) s t s' t' (limits, led) (after, (stays, took)) (after', (stays', took')) = (
    ap (λ l. l.frames) stays ∙ limits ∙ sym (ap (λ l. l.frames) stays'),
    led_on R S m n (take_call from to) s.below s'.below t.below t'.below led (after, took) (after', took'),
  )
  kept (put_call from to f) s t s' t' (limits, led) (k, after, (stays, r)) (k', after', (stays', r')) =
      let as_long = ap (λ l. length (l from to)) (led_equal R S m n like s.below t.below led) in (
        ap (λ l. l.frames) stays ∙ limits ∙ sym (ap (λ l. l.frames) stays'),
        elim (cases_lt (length (R.lanes s.below from to)) (limit_of s)) [
          | inl room ↦
              let there : length (S.lanes t.below from to) < limit_of t = omega arith in
              led_on R S m n (put_call from to f) s.below s'.below t.below t'.below led
              (k, after, r.passed room) (k', after', r'.passed there)
          | inr full ↦
              let there : limit_of t ≤ length (S.lanes t.below from to) = omega arith in
              led_same R S m n s.below s'.below t.below t'.below led (r.full full).1 (r'.full there).1
        ],
      )

-- quotas of the same limit look alike if the media below do
pub quotas_alike : {M N : Type 0} (R : Rules M) (S : Rules N) (s : Quota M) (t : Quota N) → limit_of s ≡ limit_of t
    → LooksLike R (below_quota s) S (below_quota t) → LooksLike (quota_rules R) s (quota_rules S) t
quotas_alike R S s t limits like =
    alike (quota_rules R) (quota_rules S) (Same R S s.below t.below like)
    (λ a b same. led_equal R S s.below t.below like a.below b.below same.1) (kept R S s.below t.below like) s t
    (limits, none_made R S s.below t.below)

pub quota_fills : {M : Type 0} (R : Rules M) → FillsEmptyLanes R → FillsEmptyLanes (quota_rules R)
quota_fills R fills s t from to f k here none (_, r) =
    let some = s.limit.ok.0 in
    let room : length (R.lanes s.below from to) < limit_of s = omega (arith, some, ap length none) in
    fills s.below t.below from to f k here none (r.passed room)
