-- Every moment of a run: a trip from a fresh state leads to it, its book is what its table counts, its tally counts
-- the turns and the losses.
use Rattle.std.proofs.Common.{◌≡◌, ℕ, ◌+◌, ◌<◌, List, [], ◌∷◌, length, sym, refl, ap, ◌∙◌, subst, inl, inr}
use Rattle.std.proofs.lemmas.List.{length-append}
use Rattle.std.proofs.lemmas.Bool.{cases_eq, cases_lt, eq-eqb, ne_eqb, lt-ltb, le-ltb}
use Rattle.element.specs.Algebra.{Algebra}
use Rattle.scene.specs.Cells.{Scene}
use Rattle.plan.specs.Links.{Shape, items}
use Rattle.protocol.specs.Frames.{brings, count_after}
use Rattle.protocol.specs.Turns.{State, Turned, lost}
use Rattle.protocol.specs.Books.{Book, fed}
use Rattle.protocol.specs.Runs.{Moment, Fresh, Turn, Run, fresh, turn, call, seen, laid, accepted_in}
use Rattle.protocol.proofs.Plan.{Plan}
use Rattle.protocol.proofs.Invariant.{FreshState}
use Rattle.protocol.proofs.Trips.{Trip, trip_push}
use Rattle.protocol.proofs.Steps.{Step}
use Rattle.protocol.proofs.Tied.{OfScene}

-- a turn feeds the book as it raises the counts of accepted items
fed_as_accepted : {M : Type 0} (A : Algebra M) (S : Shape) (s u : State M) (p : ℕ) (book : Book) → Turned A S s u p
    → ((a b : ℕ) → book a b ≡ s.j a b) → (a b : ℕ) → fed S p s.lane book a b ≡ u.j a b
fed_as_accepted A S s u p book t h a b = elim (cases_eq b p) [
  | inr d ↦ rw (ne_eqb b p d) (h a b ∙ sym (t.j_rest a b (inl d)))
  | inl e ↦ elim (cases_lt a S.boards) [
    | inr g ↦ rw (eq-eqb b p e, le-ltb a S.boards g) (h a b ∙ sym (t.j_rest a b (inr (inr g))))
    | inl l ↦ elim (cases_eq a p) [
      | inl x ↦ rw (eq-eqb b p e, lt-ltb a S.boards l, eq-eqb a p x) (h a b ∙ sym (t.j_rest a b (inr (inl x))))
      | inr x ↦ rw (eq-eqb b p e, lt-ltb a S.boards l, ne_eqb a p x)
          (rw (h a b) (subst (λ c. count_after (brings (items S a c)) (s.j a c) (s.lane a c) ≡ u.j a c) (sym e)
          (sym (t.j_own a l x))))
    ]
  ]
]

module _ {M : Type 0} (A : Algebra M) (s : Scene) where
  -- the book, which is fed from the lanes alone, is what the table counts
  pub book_is_accepted : {ts : List ℕ} {m : Moment M} {book : Book} {l : ℕ} → Run A s ts m book l
      → (a b : ℕ) → book a b ≡ accepted_in m.links a b
  book_is_accepted (fresh {m} f) a b = sym (ap (λ x. x.j) (f.no_counts a b))
  book_is_accepted (turn {ts} {m} {book} {l} p m' r t) a b =
      fed_as_accepted A (laid A s) (seen A m) (seen A m') p book t.turned (book_is_accepted r) a b
  book_is_accepted (call c r) a b = book_is_accepted r a b

  pub turns_counted : {ts : List ℕ} {m : Moment M} {book : Book} {l : ℕ} → Run A s ts m book l
      → m.tally.turns ≡ length ts
  turns_counted (fresh f) = ap (λ x. x.turns) f.no_turns
  turns_counted (turn {ts} p m' r t) =
      ap (λ x. x.turns) t.counted ∙ ap (λ x. x + 1) (turns_counted r) ∙ sym (length-append ts (p ∷ []))
  turns_counted (call c r) = turns_counted r

  pub losses_counted : {ts : List ℕ} {m : Moment M} {book : Book} {l : ℕ} → Run A s ts m book l → m.tally.lost ≡ l
  losses_counted (fresh f) = ap (λ x. x.lost) f.no_turns
  losses_counted (turn {ts} {m} p m' r t) =
      ap (λ x. x.lost) t.counted ∙ ap (λ x. x + lost A (laid A s) (seen A m) (seen A m') p) (losses_counted r)
  losses_counted (call c r) = losses_counted r

  module _ (P : Plan A) (tie : OfScene P s) where
    fresh_moment : (m : Moment M) → Fresh A s m → FreshState P (seen A m)
    fresh_moment m f = record {
      i_zero = λ a b. ap (λ x. x.i) (f.no_counts a b);
      j_zero = λ a b. ap (λ x. x.j) (f.no_counts a b);
      empty = f.no_frames;
      loaded = λ c ok. let below = tie.valid_is c ok in f.loaded c below ∙ sym (tie.own_is c below);
    }

    turn_step : (p : ℕ) (m m' : Moment M) → Turn A (laid A s) p m m'
        → Step P p (seen A m) (seen A m') (lost A (laid A s) (seen A m) (seen A m') p)
    turn_step p m m' t =
        let l = lost A (laid A s) (seen A m) (seen A m') p in
        subst (λ S. (p < S.boards) × Turned A S (seen A m) (seen A m') p × (l ≡ lost A S (seen A m) (seen A m') p))
        (sym tie.shape_is) (t.below, t.turned, refl)

    pub run_is_trip : {ts : List ℕ} {m : Moment M} {book : Book} {l : ℕ} → Run A s ts m book l
        → (o : State M) × FreshState P o × Trip (Step P) ts o (seen A m) l
    run_is_trip (fresh {m} f) = (seen A m, fresh_moment m f, (refl, refl))
    run_is_trip (turn {ts} {m} {book} {l} p m' r t) =
        let (o, f, h) = run_is_trip r in
        (o, f, trip_push (Step P) ts p o (seen A m) (seen A m') l _ h (turn_step p m m' t))
    run_is_trip (call c r) = run_is_trip r
