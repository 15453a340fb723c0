-- What a board's puts amount to.
use Rattle.std.proofs.Common.{◌≡◌, ℕ, suc, ◌+◌, ◌-◌, ◌<◌, ◌≤◌, Bool, true, false, cond, ◌&&◌, eqb, ◌≢◌, ◌⊎◌, List}
use Rattle.std.proofs.Common.{◌++◌, length, replicate, sym, refl, ap, ◌∙◌, inl, inr, add-zero, add-one, arith}
use mir.Val.{bool_byte}
use Rattle.std.proofs.lemmas.List.{length-append, length-replicate}
use Rattle.std.proofs.lemmas.Bool.{cases_eq, eq-eqb, ne_eqb, both_ways, cond-true}
use Rattle.medium.specs.Lanes.{Lanes, appended, same_lane}
use Rattle.medium.specs.declared.frame.Frame.{Frame}
use Rattle.protocol.specs.Steps.{Spoken, Sent}
use Rattle.protocol.proofs.Lanes.{same_lane_self}
use Rattle.protocol.proofs.Received.{sum_others_same}

abbrev flag : Bool → ℕ
flag b = cond b 1 0

pub byte_cond : (b : Bool) → bool_byte b ≡ cond b 1 0
byte_cond true = refl
byte_cond false = refl

grown_by : (xs ys : List Frame) (k : ℕ) (f : Frame) → ys ≡ xs ++ replicate k f → length ys - length xs ≡ k
grown_by xs ys k f e = omega (arith, ap length e, length-append xs (replicate k f), length-replicate k f)

pub other_lane : (p q a b : ℕ) → (a ≡ p → b ≡ q → ⊥) → same_lane p q a b ≡ false
other_lane p q a b other = elim (cases_eq a p) [
  | inl e ↦ rw (eq-eqb a p e, ne_eqb b q (other e)) refl
  | inr d ↦ rw (ne_eqb a p d) refl
]

pub put_speaks : (p q : ℕ) (f g : Frame) (k : ℕ) (lanes lanes' : Lanes) (due lost : Bool)
    → lanes' ≡ appended lanes p q f k → lost ≡ eqb k 0 → f ≡ g → due ≡ true → Spoken p q due g lanes lanes' true lost
put_speaks p q f g k lanes lanes' due lost after none same is =
    let here : lanes' p q ≡ lanes p q ++ replicate k f =
    ap (λ l. l p q) after ∙ cond-true (same_lane p q p q) _ _ (same_lane_self p q) in
    let left : length (lanes' p q) - length (lanes p q) ≡ k = grown_by (lanes p q) (lanes' p q) k f here in
    record {
      sent = here ∙ rw (left, same) refl;
      still = λ e. absurd (both_ways due e is);
      elsewhere = λ a b other. ap (λ l. l a b) after ∙ rw (other_lane p q a b other) refl;
      made_is = sym is;
      lost_is = none ∙ rw (is, left) refl;
    }

module _ (p : ℕ) (due : ℕ → Bool) (frame : ℕ → Frame) (lanes : Lanes) where
  module _ (k : ℕ) (lanes' : Lanes) (made lost : ℕ) (v : Sent p due frame lanes k lanes' made lost) where
    later : {X Y : Type 0} (b : ℕ) → X ⊎ (Y ⊎ (suc k ≤ b)) → X ⊎ (Y ⊎ (k ≤ b))
    later b h = elim h [ inl x ↦ inl x | inr y ↦ elim y [ inl z ↦ inr (inl z) | inr z ↦ inr (inr (omega arith)) ] ]

    pub sent_itself : k ≡ p → Sent p due frame lanes (suc k) lanes' made lost
    sent_itself e = record {
      sent = λ q l d. v.sent q (omega arith) d;
      still = λ q l d. v.still q (omega arith) d;
      rest = λ a b h. v.rest a b (later b h);
      made_is = rw (eq-eqb k p e) (omega (arith, v.made_is));
      lost_is = rw (eq-eqb k p e) (omega (arith, v.lost_is));
    }

    module _ (kp : k ≢ p) (lanes'' : Lanes) (m l : Bool) (s : Spoken p k (due k) (frame k) lanes' lanes'' m l) where
      as_before : lanes' p k ≡ lanes p k
      as_before = v.rest p k (inr (inr (omega arith)))

      same_left : (q : ℕ) → q < k → lanes'' p q ≡ lanes' p q
      same_left q b = s.elsewhere p q (λ _ e. omega arith)

      here_left : length (lanes'' p k) - length (lanes' p k) ≡ length (lanes'' p k) - length (lanes p k)
      here_left = ap (λ x. length (lanes'' p k) - length x) as_before

      pub sent_more : Sent p due frame lanes (suc k) lanes'' (made + bool_byte m) (lost + bool_byte l)
      sent_more = record {
        sent = λ q b d. elim (cases_eq q k) [
          | inl e ↦ rw e (s.sent ∙ rw (as_before) refl)
          | inr c ↦ rw (same_left q (omega arith)) (v.sent q (omega arith) d)
        ];
        still = λ q b d n. elim (cases_eq q k) [
          | inl e ↦ rw e (s.still (ap due (sym e) ∙ n) ∙ as_before)
          | inr c ↦ same_left q (omega arith) ∙ v.still q (omega arith) d n
        ];
        rest = λ a b h.
            s.elsewhere a b (λ e f. elim h [
              | inl y ↦ y e
              | inr y ↦ elim y
                  [ inl z ↦ kp (sym f ∙ z) | inr z ↦ omega arith ]
            ])
            ∙ v.rest a b (later b h);
        made_is = rw (ne_eqb k p kp)
            (omega (arith, v.made_is, byte_cond m, ap flag s.made_is));
        lost_is = rw (ne_eqb k p kp)
            (omega (
              arith,
              v.lost_is,
              byte_cond l,
              ap flag (s.lost_is ∙ ap (λ x. due k && eqb x 0) here_left),
              sum_others_same p k (λ q. cond (due q && eqb (length (lanes'' p q) - length (lanes p q)) 0) 1 0)
                  (λ q. cond (due q && eqb (length (lanes' p q) - length (lanes p q)) 0) 1 0)
                  (λ q b d. ap (λ x. flag (due q && eqb (length x - length (lanes p q)) 0)) (same_left q b)),
            ));
      }

    -- the next board, whichever it is
    pub sent_next : (lanes'' : Lanes) (m l : Bool)
        → (k ≡ p → (m ≡ false) × (l ≡ false) × (lanes'' ≡ lanes'))
        → ((k ≡ p → ⊥) → Spoken p k (due k) (frame k) lanes' lanes'' m l)
        → Sent p due frame lanes (k + 1) lanes'' (made + bool_byte m) (lost + bool_byte l)
    sent_next lanes'' m l itself other = rw (add-one k) (elim (cases_eq k p) [
      | inl e ↦
          let (a, b, c) = itself e in
          rw (a, b, c, add-zero made, add-zero lost) (sent_itself e)
      | inr d ↦ sent_more d lanes'' m l (other d)
    ])
