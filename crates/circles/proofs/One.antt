-- Circles over media that look alike have one end.
use Rattle.std.proofs.Common.{◌≡◌, ℕ, zero, suc, ◌<◌, Bool, false, length, slice_index_or}
use Rattle.std.proofs.Common.{sym, ap, ap₂, ◌∙◌, subst, inl, inr, arith}
use Rattle.std.proofs.lemmas.Bool.{cases_order}
use Rattle.std.proofs.lemmas.List.{ext_get_or}
use Rattle.element.specs.Algebra.{Algebra}
use Rattle.medium.specs.Calls.{Rules, LooksLike}
use Rattle.medium.proofs.Calling.{alike_after, alike_lanes}
use Rattle.plan.specs.Links.{Shape}
use Rattle.protocol.specs.Runs.{seen, link_at, accepted_in, tallied}
use Rattle.turns.specs.Called.{turn_calls}
use Rattle.circles.specs.Chains.{Snapshot, moment_at, TurnLeads, TurnsLead, no_turn, next_turn, CirclesLead}
use Rattle.circles.specs.Chains.{no_circle, next_circle, CirclesUntil}
use Rattle.circles.proofs.Same.{same_turn}

module _ {M D E : Type 0} (R : Rules D) (S : Rules E) where
  -- x and y show the same tally, records of links, copies and lanes
  pub record SameEnd (x : Snapshot M D) (y : Snapshot M E) : Type 0 where
    pub tally : x.tally ≡ y.tally
    pub links : (a b : ℕ) → link_at x.links a b ≡ link_at y.links a b
    pub copies : x.copies ≡ y.copies
    pub lanes : R.lanes x.medium ≡ S.lanes y.medium

  -- and no calls tell their media apart
  abbrev pub Matches : Snapshot M D → Snapshot M E → Type 0
  Matches x y = SameEnd x y × LooksLike R x.medium S y.medium

  module _ (A : Algebra M) (P : Shape) where
    turn_matches : (p : ℕ) (x x' : Snapshot M D) (y y' : Snapshot M E) → Matches x y → TurnLeads A R P p x x'
        → TurnLeads A S P p y y' → Matches x' y'
    turn_matches p x x' y y' (m, looks) t u =
        let s = seen A (moment_at R x) in
        let s' = seen A (moment_at R x') in
        let v = seen A (moment_at S y) in
        let v' = seen A (moment_at S y') in
        let before : s ≡ v = λ k. record {
          i = λ a b. (m.links a b k).i;
          j = λ a b. (m.links a b k).j;
          lane = m.lanes k;
          val = λ c. slice_index_or (m.copies k) c A.zero;
        } in
        let same = same_turn A P p s v s' v' before t.turn.turned u.turn.turned in
        let after = alike_after R S x.medium y.medium looks x'.medium y'.medium
        (turn_calls A P s s' p) (turn_calls A P v v' p) same.calls t.calls u.calls in
        let lanes = alike_lanes R S x'.medium y'.medium after in (
          record {
            tally = t.turn.counted ∙ ap₂ tallied (same.counts lanes) m.tally ∙ sym u.turn.counted;
            links = λ a b k. record { i = same.i a b k; j = same.j a b k };
            copies = ext_get_or A.zero x'.copies y'.copies
                (t.turn.same_length ∙ ap length m.copies ∙ sym u.turn.same_length) (λ c _. ap (λ f. f c) same.val);
            lanes = lanes;
          },
          after,
        )

    turns_match : (x : Snapshot M D) (y : Snapshot M E) → Matches x y → (k : ℕ) (x' : Snapshot M D) (y' : Snapshot M E)
        → TurnsLead A R P x k x' → TurnsLead A S P y k y' → Matches x' y'
    turns_match x y m zero x' y' no_turn no_turn = m
    turns_match x y m (suc p) x' y' (next_turn _ x₁ _ a t) (next_turn _ y₁ _ b u) =
        turn_matches p x₁ x' y₁ y' (turns_match x y m p x₁ y₁ a b) t u

    circles_match : (met : (ℕ → ℕ → ℕ) → Bool) (x : Snapshot M D) (y : Snapshot M E) → Matches x y
        → (k : ℕ) (x' : Snapshot M D) (y' : Snapshot M E)
        → CirclesLead A R P met x k x' → CirclesLead A S P met y k y' → Matches x' y'
    circles_match met x y m zero x' y' no_circle no_circle = m
    circles_match met x y m (suc k) x' y' (next_circle _ x₁ _ a e t) (next_circle _ y₁ _ b f u) =
        turns_match x₁ y₁ (circles_match met x y m k x₁ y₁ a b) P.boards x' y' t u

-- the test failed where fewer of these circles led to
unmet_before : {M D : Type 0} (A : Algebra M) (R : Rules D) (P : Shape) (met : (ℕ → ℕ → ℕ) → Bool) (x : Snapshot M D)
    (k j : ℕ) (y : Snapshot M D) → k < j → CirclesLead A R P met x j y
    → (z : Snapshot M D) × CirclesLead A R P met x k z × (met (accepted_in z.links) ≡ false)
unmet_before A R P met x k j y l no_circle = absurd (omega arith)
unmet_before A R P met x k j y l (next_circle i z o before unmet turns) = elim (cases_order k i) [
  | inl same ↦ (z, subst (λ n. CirclesLead A R P met x n z) (sym same) before, unmet)
  | inr (inl low) ↦ unmet_before A R P met x k i z low before
  | inr (inr high) ↦ absurd (omega arith)
]

module _ {M D E : Type 0} (A : Algebra M) (R : Rules D) (S : Rules E) (P : Shape) (met : (ℕ → ℕ → ℕ) → Bool)
    (limit : ℕ) (x x' : Snapshot M D) (y y' : Snapshot M E) where
  met_alike : (v : Snapshot M D) (w : Snapshot M E) → Matches R S v w
      → met (accepted_in v.links) ≡ met (accepted_in w.links)
  met_alike v w m = λ k. met (λ a b. (m.0.links a b k).j)

  -- from snapshots that match as many circles are made, and their ends match
  pub matching_ends : Matches R S x y → (u : CirclesUntil A R P met limit x x') (v : CirclesUntil A S P met limit y y')
      → (u.circles ≡ v.circles) × Matches R S x' y'
  matching_ends m u v = elim (cases_order u.circles v.circles) [
    | inl same ↦ (
      same,
      circles_match R S A P met x y m v.circles x' y' (subst (λ k. CirclesLead A R P met x k x') same u.led) v.led,
    )
    | inr (inl low) ↦
        let (z, to, unmet) = unmet_before A S P met y u.circles v.circles y' low v.led in
        let end = circles_match R S A P met x y m u.circles x' z u.led to in
        absurd (omega (arith, u.ended (met_alike x' z end ∙ unmet), v.few))
    | inr (inr high) ↦
        let (z, to, unmet) = unmet_before A R P met x v.circles u.circles x' high u.led in
        let end = circles_match R S A P met x y m v.circles z y' to v.led in
        absurd (omega (arith, v.ended (sym (met_alike z y' end) ∙ unmet), u.few))
  ]

  -- circles over media that look alike have one end
  pub circles_have_one_end : LooksLike R x.medium S y.medium → x.tally ≡ y.tally → x.links ≡ y.links
      → x.copies ≡ y.copies → (u : CirclesUntil A R P met limit x x') (v : CirclesUntil A S P met limit y y')
      → (u.circles ≡ v.circles) × SameEnd R S x' y'
  circles_have_one_end media tally links copies u v =
      let start : Matches R S x y = (
        record {
          tally = tally;
          links = λ a b. ap (λ l. link_at l a b) links;
          copies = copies;
          lanes = alike_lanes R S x.medium y.medium media;
        },
        media,
      ) in
      let (circles, end) = matching_ends start u v in (circles, end.0)
