-- What one board more, to which a put was made or not, adds to the puts so far.
use Rattle.std.proofs.Common.{◌≡◌, ℕ, ◌+◌, Bool, true, false, cond, ◌≢◌, eqb, refl, add-one, add-zero, rules, sym}
use Rattle.medium.specs.declared.frame.Frame.{Frame}
use Rattle.medium.specs.Lanes.{Lanes, appended}
use Rattle.protocol.specs.Steps.{Sent}
use Rattle.protocol.proofs.Sending.{byte_cond, put_speaks, sent_itself, sent_next}

module _ (p : ℕ) (due : ℕ → Bool) (frame : ℕ → Frame) (lanes : Lanes) (q : ℕ) (lanes' : Lanes) (made lost : ℕ)
    (v : Sent p due frame lanes q lanes' made lost) where
  -- a board puts nothing to itself
  pub itself : q ≡ p → Sent p due frame lanes (q + 1) lanes' made lost
  itself e = rw (add-one q) (sent_itself p due frame lanes q lanes' made lost v e)

  module _ (apart : q ≢ p) (lanes'' : Lanes) where
    -- a put that was due, and left n frames
    pub put_adds_one : (n : ℕ) → due q ≡ true → lanes'' ≡ appended lanes' p q (frame q) n
        → Sent p due frame lanes (q + 1) lanes'' (made + 1) (lost + cond (eqb n 0) 1 0)
    put_adds_one n is after = rw (byte_cond (eqb n 0)) at (sent_next p due frame lanes q lanes' made lost v lanes''
        true (eqb n 0)
        (λ e. absurd (apart e))
        (λ d. put_speaks p q (frame q) (frame q) n lanes' lanes'' (due q) (eqb n 0) after refl refl is))

    -- none was due
    pub no_put : due q ≡ false → lanes'' ≡ lanes' → Sent p due frame lanes (q + 1) lanes'' made lost
    no_put is after = rw (add-zero made, add-zero lost) at (sent_next p due frame lanes q lanes' made lost v lanes''
        false false
        (λ e. absurd (apart e))
        (λ d. rw after record {
          sent = search rules;
          still = λ _. refl;
          elsewhere = λ a b _. refl;
          made_is = sym is;
          lost_is = rw is refl;
        }))
