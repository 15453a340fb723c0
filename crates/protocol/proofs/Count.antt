-- The counting argument, over any steps: a window of two full circles without a loss gets something done.
use Rattle.std.proofs.Common.{◌≡◌, ℕ, zero, suc, ◌+◌, ◌*◌, ◌<◌, ◌≤◌, ◌⊎◌, List, [], ◌∷◌, ◌++◌, length, subst, inl}
use Rattle.std.proofs.Common.{inr, arith}
use Rattle.std.specs.List.{AllByRecursion}
use Rattle.std.proofs.lemmas.Bool.{cases_lt}
use Rattle.protocol.specs.Promise.{Full, flat}
use Rattle.protocol.proofs.Trips.{Trip, Window, trip_split}

module _ {S : Type 0} (Step : ℕ → S → S → ℕ → Type 0)
    (boards : ℕ) (Inv Good Done : S → Type 0) (Φ : S → ℕ)
    (keeps : (t : ℕ) (s u : S) (l : ℕ) → Step t s u l → Inv s → Inv u)
    (grows : (t : ℕ) (s u : S) (l : ℕ) → Step t s u l → Inv s → Φ s ≤ Φ u)
    (lasts : (t : ℕ) (s u : S) (l : ℕ) → Step t s u l → Inv s → Done s → Done u)
    (after : (s u : S) → Window Step boards s u → Inv s → Good u)
    (works : (s u : S) → Window Step boards s u → Inv s → Good s → (Φ s < Φ u) ⊎ Done u)
  where
    trip_Φ : (ts : List ℕ) (s u : S) (l : ℕ) → Trip Step ts s u l → Inv s → (Φ s ≤ Φ u) × Inv u
    trip_Φ [] s u l h v = subst (λ x. (Φ s ≤ Φ x) × Inv x) h.0 (omega arith, v)
    trip_Φ (t ∷ ts) s u l (m, a, b, st, r, e) v =
        let (le, v') = trip_Φ ts m u b r (keeps t s m a st v) in
        (omega (arith, grows t s m a st v), v')

    trip_done : (ts : List ℕ) (s u : S) (l : ℕ) → Trip Step ts s u l → Inv s → Done s → Done u
    trip_done [] s u l h v z = subst Done h.0 z
    trip_done (t ∷ ts) s u l (m, a, b, st, r, e) v z = trip_done ts m u b r (keeps t s m a st v) (lasts t s m a st v z)

    -- k windows, from a good state or from any: each window gets on, unless a put is lost in it or in the one before
    count : (k : ℕ) (cs : List (List ℕ)) → AllByRecursion (Full boards) cs → k + k ≤ length cs
        → (s u : S) (l : ℕ) → Trip Step (flat cs) s u l → Inv s
        → (Good s → Done u ⊎ (k + Φ s ≤ Φ u + 2 * l)) × (Done u ⊎ (k + Φ s ≤ Φ u + 2 * l + 1))
    count zero cs f le s u l h v =
        let g = trip_Φ (flat cs) s u l h v in
        (λ _. inr (omega (arith, g.0)), inr (omega (arith, g.0)))
    count (suc k) [] f le s u l h v = absurd (omega arith)
    count (suc k) (c ∷ []) f le s u l h v = absurd (omega arith)
    count (suc k) (c ∷ (d ∷ cs)) f le s u l h v =
        let (m₁, a₁, l₁, r₁, rest₁, e₁) = trip_split Step c (d ++ flat cs) s u l h in
        let (m₂, a₂, l₂, r₂, rest₂, e₂) = trip_split Step d (flat cs) m₁ u l₁ rest₁ in
        let (up₁, v₁) = trip_Φ c s m₁ a₁ r₁ v in
        let (up₂, v₂) = trip_Φ d m₁ m₂ a₂ r₂ v₁ in
        let (good, any) = count k cs f.1.1 (omega arith) m₂ u l₂ rest₂ v₂ in
        elim (cases_lt 0 (a₁ + a₂)) [
          | inl loss ↦ (
            λ _. elim any [ inl z ↦ inl z | inr z ↦ inr (omega arith) ],
            elim any [ inl z ↦ inl z | inr z ↦ inr (omega arith) ],
          )
          | inr clean ↦
              let z₁ : a₁ ≡ 0 = omega arith in
              let z₂ : a₂ ≡ 0 = omega arith in
              let w : Window Step boards s m₂ = record {
                circle₁ = c;
                circle₂ = d;
                between = m₁;
                full₁ = f.0;
                full₂ = f.1.0;
                trip₁ = rw z₁ at r₁;
                trip₂ = rw z₂ at r₂;
              } in
              let g = after s m₂ w v in (
                λ gs. elim (good g) [
                  | inl z ↦ inl z
                  | inr z ↦ elim (works s m₂ w v gs) [
                    | inl more ↦ inr (omega arith)
                    | inr done ↦ inl (trip_done (flat cs) m₂ u l₂ rest₂ v₂ done)
                  ]
                ],
                elim (good g) [ inl z ↦ inl z | inr z ↦ inr (omega arith) ],
              )
        ]

    -- two circles for each step up to the top, and four for each loss, are enough
    pub enough : (top : ℕ) → ((s : S) → Inv s → (Φ s < top) ⊎ Done s)
        → (cs : List (List ℕ)) (rest : List ℕ) → AllByRecursion (Full boards) cs
        → (s u : S) (l : ℕ) → Trip Step (flat cs ++ rest) s u l → Inv s → Good s → 2 * top + 4 * l ≤ length cs → Done u
    enough top room cs rest f s u l h v g le =
        let (m, a, b, h₁, h₂, sum) = trip_split Step (flat cs) rest s u l h in
        let (_, v') = trip_Φ (flat cs) s m a h₁ v in
        let done : Done m = elim ((count (top + 2 * a) cs f (omega arith) s m a h₁ v).0 g) [
          | inl z ↦ z
          | inr z ↦ elim (room m v') [ inl y ↦ absurd (omega arith) | inr y ↦ y ]
        ] in
        trip_done rest m u b h₂ v' done
