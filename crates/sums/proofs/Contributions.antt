-- Contributions at a vertex, one cell and one corner after the other.
use Rattle.std.proofs.Common.{◌≡◌, ℕ, zero, suc, ◌+◌, ◌<◌, Bool, true, false, cond, ◌&&◌, eqb, List, [], ◌∷◌, ◌++◌}
use Rattle.std.proofs.Common.{length, get_or, take, sym, refl, ap, ◌∙◌, inl, inr, add-one, arith}
use Rattle.std.proofs.lemmas.List.{append-nil, append_assoc, take_all}
use Rattle.std.proofs.lemmas.Bool.{cases_Bool, cases_eq, eq-eqb, ne_eqb, and_from, and_left, and_right}
use Rattle.element.specs.declared.words.Words.{Words}
use Rattle.scene.specs.Cells.{Cell}
use Rattle.scene.specs.Read.{no_words}
use Rattle.scene.specs.Sums.{at_vertex, contributions}
use Rattle.sums.specs.Sums.{first_corners}

pub contributions_append : (t : Cell → Bool) (v : ℕ) (cs ds : List Cell)
    → contributions t v (cs ++ ds) ≡ contributions t v cs ++ contributions t v ds
contributions_append t v [] ds = refl
contributions_append t v (c ∷ cs) ds = elim (cases_Bool (t c)) [
  | inl e ↦ rw e (
      ap (λ z. at_vertex v c.corners c.parts ++ z) (contributions_append t v cs ds)
      ∙ sym (append_assoc (at_vertex v c.corners c.parts) (contributions t v cs) (contributions t v ds)))
  | inr e ↦ rw e (contributions_append t v cs ds)
]

-- what the corner number k adds to those before it
at_vertex_more : (v : ℕ) (xs : List ℕ) (ps : List Words) (k : ℕ) → k < length xs → length ps ≡ length xs
    → at_vertex v (take (suc k) xs) (take (suc k) ps)
    ≡ at_vertex v (take k xs) (take k ps) ++ cond (eqb (get_or xs k 0) v) (get_or ps k no_words ∷ []) []
at_vertex_more v [] ps k l e = absurd (omega arith)
at_vertex_more v (x ∷ xs) [] k l e = absurd (omega arith)
at_vertex_more v (x ∷ xs) (p ∷ ps) zero l e = refl
at_vertex_more v (x ∷ xs) (p ∷ ps) (suc k) l e =
    let rest = at_vertex_more v xs ps k (omega arith) (omega arith) in
    elim (cases_Bool (eqb x v)) [
      | inl h ↦ rw h (ap (λ z. p ∷ z) rest)
      | inr h ↦ rw h rest
    ]

pub cond_same : {X : Type 0} (b : Bool) (x : X) → cond b x x ≡ x
cond_same true x = refl
cond_same false x = refl

-- a cell of which no corner is counted adds nothing
pub no_corners : (t : Cell → Bool) (v : ℕ) (cs : List Cell) (c : Cell)
    → contributions t v (cs ++ (first_corners 0 c ∷ [])) ≡ contributions t v cs
no_corners t v cs c =
    contributions_append t v cs (first_corners 0 c ∷ [])
    ∙ ap (λ z. contributions t v cs ++ z) (cond_same (t (first_corners 0 c)) [])
    ∙ append-nil (contributions t v cs)

-- one corner more
module _ (p v : ℕ) (cs : List Cell) (c : Cell) (k : ℕ) (there : k < length c.corners)
    (as_many : length c.parts ≡ length c.corners) where
  abbrev so_far : ℕ → List Words
  so_far n = contributions (λ d. eqb d.board p) v (cs ++ (first_corners n c ∷ []))

  abbrev new : Bool → List Words
  new b = cond b (get_or c.parts k no_words ∷ []) []

  split : (n : ℕ) → so_far n ≡ contributions (λ d. eqb d.board p) v cs
      ++ cond (eqb c.board p) (at_vertex v (take n c.corners) (take n c.parts)) []
  split n =
      let t : Cell → Bool = λ d. eqb d.board p in
      contributions_append t v cs (first_corners n c ∷ [])
      ∙ ap (λ z. contributions t v cs ++ cond (eqb c.board p) z []) (append-nil _)

  corner_more : so_far (k + 1) ≡ so_far k ++ new (eqb c.board p && eqb (get_or c.corners k 0) v)
  corner_more =
      let start = contributions (λ d. eqb d.board p) v cs in
      let before = at_vertex v (take k c.corners) (take k c.parts) in
      let last = new (eqb (get_or c.corners k 0) v) in
      let more : at_vertex v (take (k + 1) c.corners) (take (k + 1) c.parts) ≡ before ++ last =
      ap (λ n. at_vertex v (take n c.corners) (take n c.parts)) (add-one k)
      ∙ at_vertex_more v c.corners c.parts k there as_many in
      split (k + 1)
      ∙ ap (λ z. start ++ cond (eqb c.board p) z []) more
      ∙ joins start before (eqb c.board p) (eqb (get_or c.corners k 0) v)
      ∙ ap (λ z. z ++ new (eqb c.board p && eqb (get_or c.corners k 0) v)) (sym (split k))
    where
      joins : (start before : List Words) (a b : Bool)
          → start ++ cond a (before ++ new b) [] ≡ (start ++ cond a before []) ++ new (a && b)
      joins start before true b = sym (append_assoc start before (new b))
      joins start before false b = sym (append-nil (start ++ []))

  -- it is at this board and vertex
  pub corner_here : c.board ≡ p → get_or c.corners k 0 ≡ v
      → so_far (k + 1) ≡ so_far k ++ (get_or c.parts k no_words ∷ [])
  corner_here e f =
      corner_more ∙ ap (λ b. so_far k ++ new b) (and_from _ _ (eq-eqb c.board p e)
      (eq-eqb (get_or c.corners k 0) v f))

  -- it is elsewhere
  pub corner_else : (c.board ≡ p → get_or c.corners k 0 ≡ v → ⊥) → so_far (k + 1) ≡ so_far k
  corner_else apart = corner_more ∙ ap (λ b. so_far k ++ new b) elsewhere ∙ append-nil (so_far k)
    where
      elsewhere : (eqb c.board p && eqb (get_or c.corners k 0) v) ≡ false
      elsewhere = elim (cases_eq c.board p) [
        | inl e ↦ and_right _ _ (ne_eqb (get_or c.corners k 0) v (apart e))
        | inr d ↦ and_left _ _ (ne_eqb c.board p d)
      ]

-- all corners are the cell
pub all_corners : (c : Cell) → length c.parts ≡ length c.corners → first_corners (length c.corners) c ≡ c
all_corners c e =
    let xs = take_all (length c.corners) c.corners (omega arith) in
    let ps = take_all (length c.corners) c.parts (omega arith) in
    λ i. record { board = c.board; corners = xs i; parts = ps i }
