-- Rows of frames: old ones first, on which a count stays; then new ones, which can raise it by one.
use Rattle.std.proofs.Common.{◌≡◌, ℕ, zero, suc, ◌<◌, ◌≤◌, Bool, true, false, ◌⊎◌, List, [], ◌∷◌, ◌++◌, replicate}
use Rattle.std.proofs.Common.{sym, refl, ◌∙◌, inl, inr, arith}
use Rattle.std.specs.List.{AllByRecursion}
use Rattle.std.proofs.lemmas.Bool.{cases_Bool, false≢true}
use Rattle.std.proofs.ByRecursion.{All-append, All-weaker}
use Rattle.medium.specs.declared.frame.Frame.{Frame}
use Rattle.protocol.specs.Frames.{count_after, acts}

-- some frame is of the kind Q
abbrev pub SomeFrame : (Frame → Type 0) → List Frame → Type 0
SomeFrame Q [] = ⊥
SomeFrame Q (f ∷ fs) = Q f ⊎ SomeFrame Q fs

pub some_frame_left : (Q : Frame → Type 0) (fs gs : List Frame) → SomeFrame Q fs → SomeFrame Q (fs ++ gs)
some_frame_left Q [] gs s = absurd s
some_frame_left Q (f ∷ fs) gs s = elim s [ inl h ↦ inl h | inr k ↦ inr (some_frame_left Q fs gs k) ]

pub some_frame_right : (Q : Frame → Type 0) (fs gs : List Frame) → SomeFrame Q gs → SomeFrame Q (fs ++ gs)
some_frame_right Q [] gs s = s
some_frame_right Q (f ∷ fs) gs s = inr (some_frame_right Q fs gs s)

pub some_frame_replicate : (Q : Frame → Type 0) (k : ℕ) (f : Frame) → 0 < k → Q f → SomeFrame Q (replicate k f)
some_frame_replicate Q zero f l h = absurd (omega arith)
some_frame_replicate Q (suc k) f l h = inl h

pub some_frame_weaker : (Q R : Frame → Type 0) → ((f : Frame) → Q f → R f) → (fs : List Frame) → SomeFrame Q fs
    → SomeFrame R fs
some_frame_weaker Q R h [] s = s
some_frame_weaker Q R h (f ∷ fs) s = elim s [ inl x ↦ inl (h f x) | inr k ↦ inr (some_frame_weaker Q R h fs k) ]

pub all_replicate : (Q : Frame → Type 0) (k : ℕ) (f : Frame) → Q f → AllByRecursion Q (replicate k f)
all_replicate Q zero f h = tt
all_replicate Q (suc k) f h = (h, all_replicate Q k f h)

-- a count never falls
pub count_after_grows : (t : ℕ → Frame → Bool) (c : ℕ) (fs : List Frame) → c ≤ count_after t c fs
count_after_grows t c [] = omega arith
count_after_grows t c (f ∷ fs) = elim (cases_Bool (t c f)) [
  | inl e ↦ rw e (omega (arith, count_after_grows t (suc c) fs))
  | inr e ↦ rw e (count_after_grows t c fs)
]

-- where it grew, a frame passed
pub count_after_grew : (t : ℕ → Frame → Bool) (Q : Frame → Type 0) → ((c : ℕ) (f : Frame) → t c f ≡ true → Q f)
    → (c : ℕ) (fs : List Frame) → c < count_after t c fs → SomeFrame Q fs
count_after_grew t Q h c [] l = absurd (omega arith)
count_after_grew t Q h c (f ∷ fs) l = elim (cases_Bool (t c f)) [
  | inl e ↦ inl (h c f e)
  | inr e ↦ inr (count_after_grew t Q h c fs (rw e at l))
]

-- frames none of which passes do nothing
pub count_after_quiet : (t : ℕ → Frame → Bool) (c : ℕ) (fs : List Frame) → AllByRecursion (λ f. t c f ≡ false) fs
    → count_after t c fs ≡ c
count_after_quiet t c [] h = refl
count_after_quiet t c (f ∷ fs) h = rw h.0 (count_after_quiet t c fs h.1)

pub acts_quiet : (t : ℕ → Frame → Bool) {X : Type 0} (g : ℕ → Frame → X → X) (c : ℕ) (x : X) (fs : List Frame)
    → AllByRecursion (λ f. t c f ≡ false) fs → acts t g c x fs ≡ x
acts_quiet t g c x [] h = refl
acts_quiet t g c x (f ∷ fs) h = rw h.0 (acts_quiet t g c x fs h.1)

pub quiet_none : (t : ℕ → Frame → Bool) (c : ℕ) (fs : List Frame)
    → AllByRecursion (λ f. t c f ≡ false) fs → SomeFrame (λ f. t c f ≡ true) fs → ⊥
quiet_none t c [] a s = s
quiet_none t c (f ∷ fs) a s = elim s [ inl h ↦ false≢true (sym a.0 ∙ h) | inr k ↦ quiet_none t c fs a.1 k ]

-- a row: first frames that do not pass at c, then new ones
pub data Row (t : ℕ → Frame → Bool) (New : Frame → Type 0) (c : ℕ) : List Frame → Type 0 where
  new : {fs : List Frame} → AllByRecursion New fs → Row t New c fs
  old : {f : Frame} {fs : List Frame} → t c f ≡ false → Row t New c fs → Row t New c (f ∷ fs)

pub row_weaker : (t : ℕ → Frame → Bool) (c : ℕ) (Q R : Frame → Type 0) → ((f : Frame) → Q f → R f)
    → {fs : List Frame} → Row t Q c fs → Row t R c fs
row_weaker t c Q R h (new {fs} k) = new (All-weaker Q R h fs k)
row_weaker t c Q R h (old e r) = old e (row_weaker t c Q R h r)

-- what frames do that raise the count by at most one: nothing, or what one new frame does
abbrev pub Does : (t : ℕ → Frame → Bool) (New : Frame → Type 0) (c : ℕ) {X : Type 0} (g : ℕ → Frame → X → X) (x : X)
    → List Frame → Type 0
Does t New c g x fs = ((count_after t c fs ≡ c) × (acts t g c x fs ≡ x))
    ⊎ ((count_after t c fs ≡ suc c) × ((f : Frame) × New f × (t c f ≡ true) × (acts t g c x fs ≡ g c f x)))

module _ (t : ℕ → Frame → Bool) (New : Frame → Type 0) (c : ℕ) where
  pub row_from_old : (fs : List Frame) → AllByRecursion (λ f. t c f ≡ false) fs → Row t New c fs
  row_from_old [] h = new tt
  row_from_old (f ∷ fs) h = old h.0 (row_from_old fs h.1)

  pub row_append : {fs : List Frame} (gs : List Frame) → Row t New c fs → AllByRecursion New gs → Row t New c (fs ++ gs)
  row_append gs (new {fs} h) k = new (All-append New fs gs h k)
  row_append gs (old h r) k = old h (row_append gs r k)

  -- no new frame passes once the count is raised
  module _ (quiet : (f : Frame) → New f → t (suc c) f ≡ false) where
    new_acts : {X : Type 0} (g : ℕ → Frame → X → X) (x : X) (fs : List Frame) → AllByRecursion New fs
        → Does t New c g x fs
    new_acts g x [] k = inl (refl, refl)
    new_acts g x (f ∷ fs) k = elim (cases_Bool (t c f)) [
      | inl e ↦
          let q = All-weaker New (λ f. t (suc c) f ≡ false) quiet fs k.1 in
          rw e (inr (count_after_quiet t (suc c) fs q, (f, k.0, e, acts_quiet t g (suc c) (g c f x) fs q)))
      | inr e ↦ rw e (new_acts g x fs k.1)
    ]

    pub row_acts : {X : Type 0} (g : ℕ → Frame → X → X) (x : X) {fs : List Frame}
        → Row t New c fs → Does t New c g x fs
    row_acts g x (old h r) = rw h (row_acts g x r)
    row_acts g x (new {fs} h) = new_acts g x fs h

    pub row_count_after : {fs : List Frame} → Row t New c fs → (count_after t c fs ≡ c) ⊎ (count_after t c fs ≡ suc c)
    row_count_after r = elim (row_acts (λ (_ : ℕ) (_ : Frame) (x : ℕ). x) 0 r) [ inl x ↦ inl x.0 | inr x ↦ inr x.0 ]

    -- and a frame that passes does raise it
    pub row_passes : {fs : List Frame} → Row t New c fs → SomeFrame (λ f. t c f ≡ true) fs → count_after t c fs ≡ suc c
    row_passes (old h r) s = elim s [ inl e ↦ absurd (false≢true (sym h ∙ e)) | inr k ↦ rw h (row_passes r k) ]
    row_passes (new {fs} h) s = go fs h s
      where
        go : (gs : List Frame) → AllByRecursion New gs → SomeFrame (λ f. t c f ≡ true) gs → count_after t c gs ≡ suc c
        go [] k s = absurd s
        go (g ∷ gs) k s = elim (cases_Bool (t c g)) [
          | inl e ↦ rw e (count_after_quiet t (suc c) gs (All-weaker New (λ f. t (suc c) f ≡ false) quiet gs k.1))
          | inr e ↦ rw e (elim s [ inl u ↦ absurd (false≢true (sym e ∙ u)) | inr v ↦ go gs k.1 v ])
        ]
