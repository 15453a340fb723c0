-- What one put and one take make of a medium: how far the rules decide it.
use Rattle.std.specs.Prelude.{◌≡◌, ℕ, ◌+◌, ◌<◌, ◌≤◌, length}
use Rattle.medium.specs.Lanes.{Lanes, appended}
use Rattle.medium.specs.declared.frame.Frame.{Frame}

-- the medium before, the two boards, the frame, the number answered, and the medium after
abbrev pub Puts : Type 0 → Type 1
Puts M = M → ℕ → ℕ → Frame → ℕ → M → Type 0

-- the medium before, the two boards, and the medium after
abbrev pub Takes : Type 0 → Type 1
Takes M = M → ℕ → ℕ → M → Type 0

-- no frame was appended, and the medium is as it was
abbrev pub Dropped : {M : Type 0} → Puts M
Dropped m from to f k n = (k ≡ 0) × (n ≡ m)

-- a put where `limit` or more frames wait appends none; every other is a put to the medium below
pub record Rationed {M : Type 0} (lanes : M → Lanes) (puts : Puts M) (limit : ℕ)
    (m : M) (from to : ℕ) (f : Frame) (k : ℕ) (n : M) : Type 0 where
  pub full : limit ≤ length (lanes m from to) → Dropped m from to f k n
  pub passed : length (lanes m from to) < limit → puts m from to f k n

-- two puts of the same frame, one after the other, answer the sum; what the first appended waits before the second
pub record Doubled {M : Type 0} (lanes : M → Lanes) (puts : Puts M)
    (m : M) (from to : ℕ) (f : Frame) (k : ℕ) (n : M) : Type 0 where
  pub between : M
  pub one : ℕ
  pub two : ℕ
  pub after_one : lanes between ≡ appended (lanes m) from to f one
  pub earlier : puts m from to f one between
  pub later : puts between from to f two n
  pub sum : k ≡ one + two

-- code 0 is a put to the medium below, 1 appends none, 2 is two puts to the medium below
pub record Scripted {M : Type 0} (lanes : M → Lanes) (puts : Puts M) (code : ℕ)
    (m : M) (from to : ℕ) (f : Frame) (k : ℕ) (n : M) : Type 0 where
  pub passed : code ≡ 0 → puts m from to f k n
  pub dropped : code ≡ 1 → Dropped m from to f k n
  pub doubled : code ≡ 2 → Doubled lanes puts m from to f k n
