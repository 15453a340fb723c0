-- Trips: steps of boards, one after the other; what they keep, and what a full circle without a loss gets done.
use Rattle.std.proofs.Common.{◌≡◌, ℕ, ◌+◌, ◌<◌, List, [], ◌∷◌, ◌++◌, refl, subst, inl, inr, arith}
use Rattle.protocol.specs.Promise.{In, Full}

-- steps of the boards ts lead from s to u, and l puts are lost on the way
abbrev pub Trip : {S : Type 0} → (ℕ → S → S → ℕ → Type 0) → List ℕ → S → S → ℕ → Type 0
Trip Step [] s u l = (s ≡ u) × (l ≡ 0)
Trip {S} Step (t ∷ ts) s u l = (m : S) × (a : ℕ) × (b : ℕ) × Step t s m a × Trip Step ts m u b × (l ≡ a + b)

module _ {S : Type 0} (Step : ℕ → S → S → ℕ → Type 0) where
  pub trip_split : (xs ys : List ℕ) (s u : S) (l : ℕ) → Trip Step (xs ++ ys) s u l
      → (m : S) × (a : ℕ) × (b : ℕ) × Trip Step xs s m a × Trip Step ys m u b × (l ≡ a + b)
  trip_split [] ys s u l h = (s, 0, l, (refl, refl), h, omega arith)
  trip_split (x ∷ xs) ys s u l (m, a, b, st, r, e) =
      let (m', a', b', r₁, r₂, e') = trip_split xs ys m u b r in
      (m', a + a', b', (m, a, a', st, r₁, refl), r₂, omega arith)

  -- one more step at the end
  pub trip_push : (ts : List ℕ) (t : ℕ) (s m u : S) (a b : ℕ) → Trip Step ts s m a → Step t m u b
      → Trip Step (ts ++ (t ∷ [])) s u (a + b)
  trip_push [] t s m u a b h g = (u, b, 0, rw h.0 g, (refl, refl), omega arith)
  trip_push (x ∷ xs) t s m u a b (m₁, a₁, b₁, st, r, e) g =
      (m₁, a₁, b₁ + b, st, trip_push xs t m₁ m u b₁ b r g, omega arith)

  -- what each step keeps, a trip keeps
  pub trip_keeps : (Q : S → Type 0) → ((t : ℕ) (s u : S) (l : ℕ) → Step t s u l → Q s → Q u)
      → (ts : List ℕ) (s u : S) (l : ℕ) → Trip Step ts s u l → Q s → Q u
  trip_keeps Q keep [] s u l h q = subst Q h.0 q
  trip_keeps Q keep (t ∷ ts) s u l (m, a, b, st, r, e) q = trip_keeps Q keep ts m u b r (keep t s m a st q)

  -- steps without a loss keep Q
  abbrev pub Lasts : (S → Type 0) → Type 0
  Lasts Q = (t : ℕ) (s u : S) → Step t s u 0 → Q s → Q u

  -- a step of x without a loss leads from Q to R
  abbrev pub StepLeads : ℕ → (S → Type 0) → (S → Type 0) → Type 0
  StepLeads x Q R = (s u : S) → Step x s u 0 → Q s → R u

  pub trip_stays : (Q : S → Type 0) → Lasts Q
      → (ts : List ℕ) (s u : S) (l : ℕ) → Trip Step ts s u l → l ≡ 0 → Q s → Q u
  trip_stays Q keep [] s u l h z q = subst Q h.0 q
  trip_stays Q keep (t ∷ ts) s u l (m, a, b, st, r, e) z q =
      let za : a ≡ 0 = omega arith in
      trip_stays Q keep ts m u b r (omega arith) (keep t s m (rw za at st) q)

  -- in a trip without a loss in which x turns
  pub trip_turns : (Q R : S → Type 0) (x : ℕ) → Lasts Q → Lasts R → StepLeads x Q R
      → (ts : List ℕ) (s u : S) (l : ℕ) → Trip Step ts s u l → l ≡ 0 → In x ts → Q s → R u
  trip_turns Q R x before after turn [] s u l h z i q = absurd i
  trip_turns Q R x before after turn (t ∷ ts) s u l (m, a, b, st, r, e) z i q =
      let za : a ≡ 0 = omega arith in
      let zb : b ≡ 0 = omega arith in
      let st' : Step t s m 0 = rw za at st in
      elim i [
        | inl e ↦ trip_stays R after ts m u b r zb (turn s m (rw e at st') q)
        | inr j ↦ trip_turns Q R x before after turn ts m u b r zb j (before t s m st' q)
      ]

  -- two full circles without a loss
  pub record Window (boards : ℕ) (s u : S) : Type 0 where
    pub circle₁ : List ℕ
    pub circle₂ : List ℕ
    pub between : S
    pub full₁ : Full boards circle₁
    pub full₂ : Full boards circle₂
    pub trip₁ : Trip Step circle₁ s between 0
    pub trip₂ : Trip Step circle₂ between u 0

  pub window_keeps : (boards : ℕ) (s u : S) → Window boards s u
      → (Q : S → Type 0) → ((t : ℕ) (s u : S) (l : ℕ) → Step t s u l → Q s → Q u) → Q s → Q u
  window_keeps boards s u w Q keep q =
      let r = trip_keeps Q keep w.circle₁ s w.between 0 w.trip₁ q in
      trip_keeps Q keep w.circle₂ w.between u 0 w.trip₂ r

  pub window_stays : (boards : ℕ) (s u : S) → Window boards s u → (Q : S → Type 0) → Lasts Q → Q s → Q u
  window_stays boards s u w Q keep q =
      let r = trip_stays Q keep w.circle₁ s w.between 0 w.trip₁ refl q in
      trip_stays Q keep w.circle₂ w.between u 0 w.trip₂ refl r

  -- first x turns, then y
  pub window_turns : (boards : ℕ) (s u : S) → Window boards s u
      → (O Q R : S → Type 0) (x y : ℕ) → x < boards → y < boards
      → Lasts O → Lasts Q → Lasts R → StepLeads x O Q → StepLeads y Q R → O s → R u
  window_turns boards s u w O Q R x y xb yb keepO keepQ keepR turn₁ turn₂ o =
      let q = trip_turns O Q x keepO keepQ turn₁ w.circle₁ s w.between 0 w.trip₁ refl (w.full₁ x xb) o in
      trip_turns Q R y keepQ keepR turn₂ w.circle₂ w.between u 0 w.trip₂ refl (w.full₂ y yb) q
