-- One link: what its two lanes hold, kept by the turns of its two ends.
use Rattle.std.proofs.Common.{◌≡◌, ℕ, suc, ◌+◌, ◌<◌, ◌≤◌, true, false, ◌⊎◌, List, [], ◌++◌, replicate, Some, None}
use Rattle.std.proofs.Common.{Option, sym, refl, ap, ◌∙◌, subst, inl, inr, arith}
use Rattle.std.specs.List.{AllByRecursion}
use Rattle.std.proofs.lemmas.Bool.{cases_eq, false≢true}
use Rattle.std.proofs.ByRecursion.{All-append}
use Rattle.element.specs.declared.words.Words.{Words}
use Rattle.medium.specs.declared.frame.Frame.{Frame}
use Rattle.medium.specs.declared.frame.Item.{Item}
use Rattle.protocol.specs.Frames.{count_after, acts, brings, tells_of, odd, words_of, present}
use Rattle.protocol.proofs.Rows.{SomeFrame, some_frame_weaker, all_replicate, Row, new, count_after_quiet, acts_quiet}
use Rattle.protocol.proofs.Rows.{quiet_none}
use Rattle.protocol.proofs.Rows.{row_weaker, row_from_old, row_append, row_acts, row_count_after, row_passes}
use Rattle.protocol.proofs.Bits.{AtBit, not_brings_next, brings_below, brings_item, not_tells_same, tells_next}

-- no item, or one with the bit of j, with such words, and one that may be sent
abbrev pub Carries : (Words → Type 0) → Type 0 → ℕ → Option Item → Type 0
Carries Holds May j None = Unit {0}
Carries Holds May j (Some x) = (x.bit ≡ odd j) × Holds x.words × May

carries_bit : (Holds : Words → Type 0) (May : Type 0) (j : ℕ) (o : Option Item) → Carries Holds May j o → AtBit j o
carries_bit Holds May j None h = tt
carries_bit Holds May j (Some x) h = h.0

carries_weaker : (Holds Holds' : Words → Type 0) (May May' : Type 0)
    → ((w : Words) → Holds w → Holds' w) → (May → May')
    → (j : ℕ) (o : Option Item) → Carries Holds May j o → Carries Holds' May' j o
carries_weaker Holds Holds' May May' f g j None h = tt
carries_weaker Holds Holds' May May' f g j (Some x) (a, b, c) = (a, f x.words b, g c)

carries_item : (Holds : Words → Type 0) (May : Type 0) (j : ℕ) (o : Option Item)
    → Carries Holds May j o → present o ≡ true → Holds (words_of o) × May
carries_item Holds May j None h e = absurd (false≢true e)
carries_item Holds May j (Some x) (a, b, c) e = (b, c)

-- idle: each item accepted is known to have arrived; won: item i is accepted, and its sender does not know
pub data Phase (n : ℕ) (Holds : ℕ → Words → Type 0) (May : ℕ → Type 0) (i j : ℕ) (fw bw : List Frame)
    : Type 0 where
  idle : i ≡ j → Row (brings n) (λ f. Carries (Holds j) (May j) j f.item) j fw
      → AllByRecursion (λ f. tells_of n i f ≡ false) bw → Phase n Holds May i j fw bw
  won : j ≡ suc i → AllByRecursion (λ f. brings n j f ≡ false) fw
      → Row (tells_of n) (λ f. f.reply ≡ odd (suc i)) i bw → Phase n Holds May i j fw bw

-- a link of n items: item k has such words, and once could be sent if it is accepted
pub record LinkInv (n : ℕ) (Holds : ℕ → Words → Type 0) (May : ℕ → Type 0) (i j : ℕ) (fw bw : List Frame)
    : Type 0 where
  pub le : j ≤ n
  pub asked : (k : ℕ) → k < j → May k
  pub phase : Phase n Holds May i j fw bw

pub link_fresh : (n : ℕ) (Holds : ℕ → Words → Type 0) (May : ℕ → Type 0) → LinkInv n Holds May 0 0 [] []
link_fresh n Holds May = record {
  le = omega arith;
  asked = λ k l. absurd (omega arith);
  phase = idle refl (new tt) tt;
}

-- on such a link the frames fw bring nothing, or exactly item j, which may be sent
abbrev pub Accepts : (n : ℕ) (Holds : ℕ → Words → Type 0) (May : ℕ → Type 0) (j : ℕ) (fw : List Frame)
    → {X : Type 0} → (ℕ → Frame → X → X) → X → Type 0
Accepts n Holds May j fw g x = ((count_after (brings n) j fw ≡ j) × (acts (brings n) g j x fw ≡ x))
    ⊎ ((count_after (brings n) j fw ≡ suc j) × (j < n) × May j
    × ((f : Frame) × Holds j (words_of f.item) × (acts (brings n) g j x fw ≡ g j f x)))

module _ (n : ℕ) (Holds : ℕ → Words → Type 0) (May : ℕ → Type 0) (i j : ℕ) (fw bw : List Frame)
    (v : LinkInv n Holds May i j fw bw) where
  pub link_orders : (i ≤ j) × (j ≤ i + 1) × (j ≤ n)
  link_orders = go v.phase
    where
      go : Phase n Holds May i j fw bw → (i ≤ j) × (j ≤ i + 1) × (j ≤ n)
      go (idle a r q) = (omega arith, omega arith, v.le)
      go (won a q r) = (omega arith, omega arith, v.le)

  pub receives : {X : Type 0} (g : ℕ → Frame → X → X) (x : X) → Accepts n Holds May j fw g x
  receives {X} g x = go v.phase
    where
      go : Phase n Holds May i j fw bw → Accepts n Holds May j fw g x
      go (won a q r) = inl (count_after_quiet (brings n) j fw q, acts_quiet (brings n) g j x fw q)
      go (idle a r q) =
          elim (row_acts (brings n) _ j (λ f y. not_brings_next n j f (carries_bit _ _ j f.item y)) g x r) [
            | inl y ↦ inl y
            | inr (e, (f, is, b, w)) ↦
                let (holds, may) = carries_item _ _ j f.item is (brings_item n j f b) in
                inr (e, brings_below n j f b, may, (f, holds, w))
          ]

  -- a frame that brings item j is accepted
  pub link_brings : SomeFrame (λ f. brings n j f ≡ true) fw → count_after (brings n) j fw ≡ suc j
  link_brings s = go v.phase
    where
      go : Phase n Holds May i j fw bw → count_after (brings n) j fw ≡ suc j
      go (idle a r q) = row_passes (brings n) _ j (λ f y. not_brings_next n j f (carries_bit _ _ j f.item y)) r s
      go (won a q r) = absurd (quiet_none (brings n) j fw q s)

  -- the reply to an accepted item is heard
  pub link_hears : j ≡ suc i → SomeFrame (λ f. f.reply ≡ odd (suc i)) bw → count_after (tells_of n) i bw ≡ suc i
  link_hears e s = go v.phase
    where
      go : Phase n Holds May i j fw bw → count_after (tells_of n) i bw ≡ suc i
      go (idle a r q) = absurd (omega arith)
      go (won a q r) =
          row_passes (tells_of n) _ i (λ f x. not_tells_same n (suc i) f x) r
          (some_frame_weaker _ _ (λ f h. tells_next n i f (omega (arith, v.le)) h) bw s)

-- turns, over which what may be sent may still be sent
module _ (n : ℕ) (Holds : ℕ → Words → Type 0) (May May' : ℕ → Type 0) (keeps : (k : ℕ) → May k → May' k)
    (i j : ℕ) (fw bw : List Frame) (v : LinkInv n Holds May i j fw bw) where
  still_carries : (f : Frame) → Carries (Holds j) (May j) j f.item → Carries (Holds j) (May' j) j f.item
  still_carries f = carries_weaker (Holds j) (Holds j) (May j) (May' j) (λ w h. h) (keeps j) j f.item

  -- a turn of the sender: it reads the replies, and puts k copies of f
  module _ (i' k : ℕ) (f : Frame) (e : i' ≡ count_after (tells_of n) i bw)
      (h : Carries (λ w. i' ≡ j → Holds j w) (May' i') i' f.item) where
    sent_idle : i' ≡ j → Carries (Holds j) (May' j) j f.item
    sent_idle ej = subst (λ c. Carries (Holds j) (May' c) c f.item) ej
        (carries_weaker (λ w. i' ≡ j → Holds j w) (Holds j) (May' i') (May' i') (λ w g. g ej) (λ m. m) i' f.item h)

    sender_phase : Phase n Holds May i j fw bw → Phase n Holds May' i' j (fw ++ replicate k f) []
    sender_phase (idle a r q) =
        let ej : i' ≡ j = e ∙ count_after_quiet (tells_of n) i bw q ∙ a in
        idle ej (row_append (brings n) _ j (replicate k f) (row_weaker _ _ _ _ still_carries r)
        (all_replicate _ k f (sent_idle ej))) tt
    sender_phase (won a q r) = elim (row_count_after (tells_of n) _ i (λ g x. not_tells_same n (suc i) g x) r) [
      | inl x ↦
          let e' : i' ≡ i = e ∙ x in
          let quiet = not_brings_next n i' f (carries_bit _ _ i' f.item h) in
          won (a ∙ ap suc (sym e')) (All-append _ fw _ q (all_replicate _ k f (rw (a, ← e') quiet))) (new tt)
      | inr x ↦
          let ej : i' ≡ j = e ∙ x ∙ sym a in
          idle ej (row_append (brings n) _ j (replicate k f) (row_from_old (brings n) _ j fw q)
          (all_replicate _ k f (sent_idle ej))) tt
    ]

    pub sender : LinkInv n Holds May' i' j (fw ++ replicate k f) []
    sender = record { le = v.le; asked = λ m l. keeps m (v.asked m l); phase = sender_phase v.phase }

  -- a turn of the receiver: it takes the items, and puts k copies of f
  module _ (j' k : ℕ) (f : Frame) (e : j' ≡ count_after (brings n) j fw) (h : f.reply ≡ odd j') where
    receiver_phase : Phase n Holds May i j fw bw → Phase n Holds May' i j' [] (bw ++ replicate k f)
    receiver_phase (idle a r q) =
        elim (row_count_after (brings n) _ j (λ g y. not_brings_next n j g (carries_bit _ _ j g.item y)) r) [
          | inl x ↦
              let e' : j' ≡ j = e ∙ x in
              let same = not_tells_same n i f (h ∙ ap odd (e' ∙ sym a)) in
              idle (a ∙ sym e') (new tt) (All-append _ bw _ q (all_replicate _ k f same))
          | inr x ↦
              let e' : j' ≡ suc i = e ∙ x ∙ ap suc (sym a) in
              let old_row = row_from_old (tells_of n) _ i bw q in
              won e' tt (row_append (tells_of n) _ i _ old_row (all_replicate _ k f (h ∙ ap odd e')))
        ]
    receiver_phase (won a q r) =
        let e' : j' ≡ suc i = e ∙ count_after_quiet (brings n) j fw q ∙ a in
        won e' tt (row_append (tells_of n) _ i _ r (all_replicate _ k f (h ∙ ap odd e')))

    pub receiver : LinkInv n Holds May' i j' [] (bw ++ replicate k f)
    receiver = elim (receives n Holds May i j fw bw v (λ (_ : ℕ) (_ : Frame) (x : ℕ). x) 0) [
      | inl x ↦
          let e' : j' ≡ j = e ∙ x.0 in
          record {
            le = rw e' v.le;
            asked = λ m l. keeps m (v.asked m (omega arith));
            phase = receiver_phase v.phase;
          }
      | inr (x, room, may, _) ↦
          let e' : j' ≡ suc j = e ∙ x in
          record {
            le = omega arith;
            asked = λ m l. keeps m (elim (cases_eq m j) [ inl y ↦ rw y may | inr y ↦ v.asked m (omega arith) ]);
            phase = receiver_phase v.phase;
          }
    ]

  -- a turn of neither
  pub onlooker : LinkInv n Holds May' i j fw bw
  onlooker = record { le = v.le; asked = λ m l. keeps m (v.asked m l); phase = go v.phase }
    where
      go : Phase n Holds May i j fw bw → Phase n Holds May' i j fw bw
      go (won a q r) = won a q r
      go (idle a r q) = idle a (row_weaker _ _ _ _ still_carries r) q
