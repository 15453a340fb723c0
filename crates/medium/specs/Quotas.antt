-- What a put and a take make of a quota, by the rules of the medium below it.
use Rattle.std.specs.Prelude.{◌≡◌, ℕ}
use Rattle.medium.specs.Calls.{Rules, rules_of}
use Rattle.medium.specs.Lanes.{Lanes}
use Rattle.medium.specs.Puts.{Puts, Rationed, Takes}
use Rattle.medium.specs.declared.quota.Quota.{Quota}

-- the medium that a quota stands on
abbrev pub below_quota : {M : Type 0} → Quota M → M
below_quota s = s.below

-- how many frames wait in a lane when it is full
abbrev pub limit_of : {M : Type 0} → Quota M → ℕ
limit_of s = s.limit.frames

-- the lanes are those of the medium below
abbrev pub quota_lanes : {M : Type 0} → (M → Lanes) → Quota M → Lanes
quota_lanes lanes s = lanes (below_quota s)

-- the limit stays; a take is one from the medium below
abbrev pub quota_takes : {M : Type 0} → Takes M → Takes (Quota M)
quota_takes takes s from to t = (t.limit ≡ s.limit) × takes (below_quota s) from to (below_quota t)

-- the limit stays; a put that meets it leaves the medium below alone, and every other is one to the medium below
abbrev pub quota_puts : {M : Type 0} → (M → Lanes) → Puts M → Puts (Quota M)
quota_puts lanes puts s from to f k t =
    (t.limit ≡ s.limit) × Rationed lanes puts (limit_of s) (below_quota s) from to f k (below_quota t)

-- the rules of a quota over a medium of these rules
abbrev pub quota_rules : {M : Type 0} → Rules M → Rules (Quota M)
quota_rules R = rules_of (quota_lanes R.lanes) (quota_takes R.takes) (quota_puts R.lanes R.puts)
