-- What taking the frames of one lane amounts to, in counts and copies.
use Rattle.std.proofs.Common.{◌≡◌, ℕ, suc, ◌+◌, ◌-◌, ◌*◌, ◌<◌, Bool, true, cond, ltb, ◌≢◌, List, [], ◌∷◌, length}
use Rattle.std.proofs.Common.{get_or, set, sym, refl, ap, ◌∙◌, inl, inr, arith}
use mathlib.Core.Path.{fun_ext}
use Rattle.std.proofs.lemmas.List.{get_or-set_same, get_or-set_other, length-set}
use Rattle.std.proofs.lemmas.Bool.{cases_Bool, cases_eq, cases_lt, eq-eqb, ne_eqb, lt-ltb, le-ltb, ltb-true, and_parts}
use Rattle.element.specs.Algebra.{Algebra}
use Rattle.element.specs.declared.words.Words.{Words}
use Rattle.medium.specs.declared.frame.Frame.{Frame}
use Rattle.plan.specs.Links.{Shape, shape, edges_between}
use Rattle.plan.specs.declared.records.Edge.{Edge}
use Rattle.protocol.specs.declared.table.Link.{Link}
use Rattle.protocol.specs.Frames.{brings, tells_of, words_of, count_after}
use Rattle.protocol.specs.Turns.{write, accept, copies_after}
use Rattle.protocol.specs.Runs.{no_link}
use Rattle.protocol.specs.Steps.{Fit, Held, after_reply, after_item, advanced, accepted_copies, frame_step, frames_step}

-- copies by number
abbrev pub view : {M : Type 0} → Algebra M → List M → ℕ → M
view A cs c = get_or cs c A.zero

pub view_set : {M : Type 0} (A : Algebra M) (cs : List M) (k : ℕ) (x : M) → k < length cs
    → view A (set cs k x) ≡ write (view A cs) k x
view_set A cs k x l = fun_ext (λ c. elim (cases_eq c k) [
  | inl e ↦ rw (eq-eqb c k e, e) (get_or-set_same cs k x A.zero l)
  | inr d ↦ rw (ne_eqb c k d) (get_or-set_other cs k c x A.zero d)
])

module _ {M : Type 0} (A : Algebra M) (boards : ℕ) (edges : List Edge) (p q : ℕ) where
  abbrev ups : List Edge
  ups = edges_between edges q p

  abbrev downs : List Edge
  downs = edges_between edges p q

  abbrev n : ℕ
  n = length ups + length downs

  abbrev P : Shape
  P = shape boards edges

  pub accepted_view : (j : ℕ) (w : Words) (cs : List M) → Fit ups downs (length cs) → j < n
      → view A (accepted_copies A ups downs j w cs) ≡ accept A P p q j w (view A cs)
  accepted_view j w cs fit l = elim (cases_lt j (length ups)) [
    | inl s ↦ rw (lt-ltb j (length ups) s) (view_set A cs _ _ (fit.up_roots j s))
    | inr s ↦ rw (le-ltb j (length ups) s) (view_set A cs _ _ (fit.down_leaves (j - length ups) (omega arith)))
  ]

  pub accepted_length : (j : ℕ) (w : Words) (cs : List M) → length (accepted_copies A ups downs j w cs) ≡ length cs
  accepted_length j w cs = elim (cases_Bool (ltb j (length ups))) [
    | inl e ↦ rw e (length-set cs _ _)
    | inr e ↦ rw e (length-set cs _ _)
  ]

  -- what one lane's frames do
  pub record Taken (fs : List Frame) (h h' : Held M) : Type 0 where
    pub long : length h'.links ≡ length h.links
    pub replies : get_or h'.links (8 * p + q) no_link
        ≡ record {
          i = count_after (tells_of n) (get_or h.links (8 * p + q) no_link).i fs;
          j = (get_or h.links (8 * p + q)
              no_link).j;
        }
    pub brought : get_or h'.links (8 * q + p) no_link
        ≡ record {
          i = (get_or h.links (8 * q + p) no_link).i;
          j = count_after (brings n)
              (get_or h.links (8 * q + p) no_link).j fs;
        }
    pub elsewhere : (k : ℕ) → k ≢ 8 * p + q → k ≢ 8 * q + p → get_or h'.links k no_link ≡ get_or h.links k no_link
    pub copied : view A h'.copies ≡ copies_after A P p q (get_or h.links (8 * q + p) no_link).j (view A h.copies) fs
    pub as_many : length h'.copies ≡ length h.copies
    pub more : h'.accepted + (get_or h.links (8 * q + p) no_link).j
        ≡ h.accepted + count_after (brings n) (get_or h.links (8 * q + p) no_link).j fs

  module _ (apart : 8 * p + q ≢ 8 * q + p) where
    module _ (f : Frame) (h : Held M) (long : (8 * p + q < length h.links) × (8 * q + p < length h.links)) where
      abbrev h' : Held M
      h' = frame_step A ups downs p q f h

      abbrev told_links : List Link
      told_links = advanced (after_reply n f) (8 * p + q) h.links

      told_long : length told_links ≡ length h.links
      told_long = length-set h.links (8 * p + q) _

      told_else : (k : ℕ) → k ≢ 8 * p + q → get_or told_links k no_link ≡ get_or h.links k no_link
      told_else k d = get_or-set_other h.links (8 * p + q) k _ no_link d

      told_here : get_or told_links (8 * p + q) no_link ≡ after_reply n f (get_or h.links (8 * p + q) no_link)
      told_here = get_or-set_same h.links (8 * p + q) _ no_link long.0

      pub step_long : length h'.links ≡ length h.links
      step_long = length-set told_links (8 * q + p) _ ∙ told_long

      pub step_replies : get_or h'.links (8 * p + q) no_link ≡ after_reply n f (get_or h.links (8 * p + q) no_link)
      step_replies = get_or-set_other told_links (8 * q + p) (8 * p + q) _ no_link apart ∙ told_here

      pub step_brought : get_or h'.links (8 * q + p) no_link ≡ after_item n f (get_or h.links (8 * q + p) no_link)
      step_brought =
          get_or-set_same told_links (8 * q + p) _ no_link (omega (arith, told_long, long.1))
          ∙ ap (after_item n f) (told_else (8 * q + p) (λ e. apart (sym e)))

      pub step_elsewhere : (k : ℕ) → k ≢ 8 * p + q → k ≢ 8 * q + p → get_or h'.links k no_link ≡ get_or h.links k
          no_link
      step_elsewhere k d e = get_or-set_other told_links (8 * q + p) k _ no_link e ∙ told_else k d

      abbrev j : ℕ
      j = (get_or h.links (8 * q + p) no_link).j

      same_j : (get_or told_links (8 * q + p) no_link).j ≡ j
      same_j = ap (λ (x : Link). x.j) (told_else (8 * q + p) (λ e. apart (sym e)))

      pub step_copies : h'.copies ≡ cond (brings n j f)
          (accepted_copies A ups downs j (words_of f.item) h.copies) h.copies
      step_copies =
          ap (λ x. cond (brings n x f) (accepted_copies A ups downs x (words_of f.item) h.copies) h.copies)
          same_j

      pub step_accepted : h'.accepted ≡ cond (brings n j f) (suc h.accepted) h.accepted
      step_accepted = ap (λ x. cond (brings n x f) (suc h.accepted) h.accepted) same_j

    brings_below : (j : ℕ) (f : Frame) → brings n j f ≡ true → j < n
    brings_below j f e = ltb-true j n (and_parts (ltb j n) _ e).0

    pub taken : (fs : List Frame) (h : Held M) → (8 * p + q < length h.links) × (8 * q + p < length h.links)
        → Fit ups downs (length h.copies) → Taken fs h (frames_step A ups downs p q fs h)
    taken [] h long fit = record {
      long = refl;
      replies = refl;
      brought = refl;
      elsewhere = λ k d e. refl;
      copied = refl;
      as_many = refl;
      more = refl;
    }
    taken (f ∷ fs) h long fit =
        let h₁ : Held M = frame_step A ups downs p q f h in
        let j₀ : ℕ = (get_or h.links (8 * q + p) no_link).j in
        let b : Bool = brings n j₀ f in
        let len : length h₁.links ≡ length h.links = step_long f h long in
        let many : length h₁.copies ≡ length h.copies =
        ap length (step_copies f h long) ∙ elim (cases_Bool b) [
          | inl e ↦ rw e (accepted_length j₀ (words_of f.item) h.copies)
          | inr e ↦ rw e refl
        ] in
        let v : Taken fs h₁ (frames_step A ups downs p q fs h₁) =
        taken fs h₁ (omega (arith, len), omega (arith, len)) (rw many fit) in
        let jj : (get_or h₁.links (8 * q + p) no_link).j ≡ cond b (suc j₀) j₀ = ap (λ (x : Link). x.j)
        (step_brought f h long) in
        record {
          long = v.long ∙ len;
          replies = v.replies ∙ ap (λ (x : Link). record { i = count_after (tells_of n) x.i fs; j = x.j })
              (step_replies f h long);
          brought = v.brought ∙ ap (λ (x : Link). record { i = x.i; j = count_after (brings n) x.j fs })
              (step_brought f h long);
          elsewhere = λ k d e. v.elsewhere k d e ∙ step_elsewhere f h long k d e;
          copied = v.copied
              ∙ ap (λ x. copies_after A P p q x (view A h₁.copies) fs) jj
              ∙ ap (λ x. copies_after A P p q (cond b (suc j₀) j₀) x fs)
              (ap (view A) (step_copies f h long) ∙ elim (cases_Bool b) [
                | inl e ↦ rw e (accepted_view j₀ (words_of f.item) h.copies fit (brings_below j₀ f e))
                | inr e ↦ rw e refl
              ]);
          as_many = v.as_many ∙ many;
          more = elim (cases_Bool b) [
            | inl e ↦
                let one : (get_or h₁.links (8 * q + p) no_link).j ≡ suc j₀ = jj ∙ ap (λ x. cond x (suc j₀) j₀) e in
                let two : h₁.accepted ≡ suc h.accepted =
                step_accepted f h long ∙ ap (λ x. cond x (suc h.accepted) h.accepted) e in
                rw e (omega (arith, v.more, one, two, ap (λ x. count_after (brings n) x fs) one))
            | inr e ↦
                let one : (get_or h₁.links (8 * q + p) no_link).j ≡ j₀ = jj ∙ ap (λ x. cond x (suc j₀) j₀) e in
                let two : h₁.accepted ≡ h.accepted =
                step_accepted f h long ∙ ap (λ x. cond x (suc h.accepted) h.accepted) e in
                rw e (omega (arith, v.more, one, two, ap (λ x. count_after (brings n) x fs) one))
          ];
        }
