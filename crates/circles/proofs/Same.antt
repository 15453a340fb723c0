-- A turn's counts, copies and calls are decided by the moment before it.
use Rattle.std.proofs.Common.{◌≡◌, ℕ, ◌<◌, ◌≤◌, ◌≢◌, ◌⊎◌, sym, ◌∙◌, subst, inl, inr}
use Rattle.std.proofs.lemmas.Bool.{cases_eq, cases_lt}
use Rattle.element.specs.Algebra.{Algebra}
use Rattle.plan.specs.Links.{Shape}
use Rattle.protocol.specs.Runs.{counts}
use Rattle.protocol.specs.Turns.{State, Turned}
use Rattle.turns.specs.Called.{turn_calls}

module _ (boards p : ℕ) (old : ℕ → ℕ → ℕ) (row : ℕ → ℕ) where
  -- row p was written for each other board, and all else is as before
  record WritesRow (new : ℕ → ℕ → ℕ) : Type 0 where
    own : (q : ℕ) → q < boards → q ≢ p → new p q ≡ row q
    rest : (a b : ℕ) → (a ≢ p) ⊎ ((b ≡ p) ⊎ (boards ≤ b)) → new a b ≡ old a b

  same_row : (m n : ℕ → ℕ → ℕ) → WritesRow m → WritesRow n → (a b : ℕ) → m a b ≡ n a b
  same_row m n x y a b = elim (cases_eq a p) [
    | inr other ↦ x.rest a b (inl other) ∙ sym (y.rest a b (inl other))
    | inl same ↦ elim (cases_lt b boards) [
      | inr past ↦ x.rest a b (inr (inr past)) ∙ sym (y.rest a b (inr (inr past)))
      | inl below ↦ elim (cases_eq b p) [
        | inl own ↦ x.rest a b (inr (inl own)) ∙ sym (y.rest a b (inr (inl own)))
        | inr other ↦ subst (λ c. m c b ≡ n c b) (sym same) (x.own b below other ∙ sym (y.own b below other))
      ]
    ]
  ]

module _ {M : Type 0} (A : Algebra M) (P : Shape) (p : ℕ) (s t u v : State M) where
  -- what is the same of a turn of p from s to u and of one from t to v, whatever their puts left
  pub record SameTurn : Type 0 where
    pub i : (a b : ℕ) → u.i a b ≡ v.i a b
    pub j : (a b : ℕ) → u.j a b ≡ v.j a b
    pub val : u.val ≡ v.val
    pub calls : turn_calls A P s u p ≡ turn_calls A P t v p
    pub counts : u.lane ≡ v.lane → counts A P s u p ≡ counts A P t v p

  -- turns from the same state
  pub same_turn : s ≡ t → Turned A P s u p → Turned A P t v p → SameTurn
  same_turn same x z =
      let y : Turned A P s v p = subst (λ r. Turned A P r v p) (sym same) z in
      let i = same_row P.boards p s.i _ u.i v.i
      (record { own = x.i_own; rest = x.i_rest }) (record { own = y.i_own; rest = y.i_rest }) in
      let j = λ (a b : ℕ). same_row P.boards p (λ c d. s.j d c) _ (λ c d. u.j d c) (λ c d. v.j d c)
      (record { own = x.j_own; rest = λ c d. x.j_rest d c })
      (record { own = y.j_own; rest = λ c d. y.j_rest d c }) b a in
      let val = x.val_is ∙ sym y.val_is in
      record {
        i = i;
        j = j;
        val = val;
        calls = λ k. turn_calls A P (same k)
            (record { i = λ a b. i a b k; j = λ a b. j a b k; lane = u.lane; val = val k }) p;
        counts = λ lane k. counts A P (same k)
            (record { i = λ a b. i a b k; j = λ a b. j a b k; lane = lane k; val = val k }) p;
      }
