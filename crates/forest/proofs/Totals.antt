-- Totals: the undivided total is the join of the boards' own sums, and the edges bring them to the root.
use Rattle.std.proofs.Common.{◌≡◌, ℕ, zero, suc, ◌<◌, Bool, true, false, cond, ◌&&◌, eqb, ◌≢◌, List, [], ◌∷◌, map}
use Rattle.std.proofs.Common.{length, get_or, filter, sym, refl, ap, ◌∙◌, subst, ap₂, inl, inr, arith}
use Rattle.std.specs.List.{range_with_len, AllByRecursion}
use Rattle.std.proofs.lemmas.List.{map-append}
use Rattle.std.proofs.lemmas.Simd.{map-map}
use Rattle.std.proofs.lemmas.Bool.{cases_eq, cases_Bool, eq-eqb, ne_eqb, or_parts, false≢true}
use Rattle.std.proofs.ByRecursion.{All-weaker}
use Rattle.element.specs.Algebra.{Algebra, Lawful}
use Rattle.element.specs.Join.{join_all, join_below}
use Rattle.element.specs.declared.words.Words.{Words}
use Rattle.element.proofs.Joins.{join_all_append, join_below_same, join_below_zeros, join_below_bump}
use Rattle.plan.specs.declared.records.Edge.{Edge}
use Rattle.plan.specs.Links.{edges_between}
use Rattle.scene.specs.Cells.{Cell, Scene, Sound}
use Rattle.scene.specs.Sums.{at_vertex, contributions, own_sum, undivided}
use Rattle.forest.specs.Forest.{any, is_corner, keeps, owns_cell_on, owner, number, ghost_of, edge_to, laid_edges}
use Rattle.forest.proofs.Members.{Among}
use Rattle.forest.proofs.Filters.{kept_within, among_counted}
use Rattle.forest.proofs.Ordered.{Ordered, ordered_kept, ordered_counting}
use Rattle.forest.proofs.Overlap.{keeps_own, owner_keeps}
use Rattle.forest.proofs.Copies.{number_once}
use Rattle.forest.proofs.Edges.{ghost_says, says_ghost, between_is, between_self}

-- a board that owns no cell on v contributes nothing there
nothing_at : (v : ℕ) (xs : List ℕ) (ps : List Words) → any (λ x. eqb x v) xs ≡ false → at_vertex v xs ps ≡ []
nothing_at v [] ps h = refl
nothing_at v (x ∷ xs) [] h = refl
nothing_at v (x ∷ xs) (p ∷ ps) h = let (a, b) = or_parts (eqb x v) _ h in rw a (nothing_at v xs ps b)

nothing_from : (p v : ℕ) (cs : List Cell) → any (λ c. eqb c.board p && is_corner v c) cs ≡ false
    → contributions (λ c. eqb c.board p) v cs ≡ []
nothing_from p v [] h = refl
nothing_from p v (c ∷ cs) h =
    let (a, b) = or_parts (eqb c.board p && is_corner v c) _ h in
    elim (cases_Bool (eqb c.board p)) [
      | inl e ↦ rw (e, nothing_at v c.corners c.parts (rw e at a), nothing_from p v cs b)
      | inr e ↦ rw e (nothing_from p v cs b)
    ]

pub own_sum_zero : {E : Type 0} (A : Algebra E) (s : Scene) (p v : ℕ) → owns_cell_on s p v ≡ false
    → own_sum A s p v ≡ A.zero
own_sum_zero A s p v h = ap (λ ws. join_all A (map A.unpack ws)) (nothing_from p v s.cells h)

module _ {E : Type 0} (A : Algebra E) (L : Lawful A) where
  -- what those cells that pass contribute at v
  abbrev pub sum_of : (Cell → Bool) → ℕ → List Cell → E
  sum_of t v cs = join_all A (map A.unpack (contributions t v cs))

  sum_more : (t : Cell → Bool) (v : ℕ) (c : Cell) (cs : List Cell) → t c ≡ true
      → sum_of t v (c ∷ cs)
      ≡ A.join (sum_of t v cs) (join_all A (map A.unpack (at_vertex v c.corners c.parts)))
  sum_more t v c cs h = rw h (
      ap (join_all A) (map-append A.unpack (at_vertex v c.corners c.parts) (contributions t v cs))
      ∙ join_all_append A L (map A.unpack (at_vertex v c.corners c.parts)) _
      ∙ L.join_comm _ _)

  total_of_own : (n v : ℕ) (cs : List Cell) → AllByRecursion (λ c. c.board < n) cs
      → join_below A n (λ p. sum_of (λ c. eqb c.board p) v cs) ≡ sum_of (λ c. true) v cs
  total_of_own n v [] h = join_below_zeros A L n
  total_of_own n v (c ∷ cs) h =
      join_below_bump A L n
      (λ p. sum_of (λ c. eqb c.board p) v cs) (λ p. sum_of (λ c. eqb c.board p) v (c ∷ cs)) c.board
      (join_all A (map A.unpack (at_vertex v c.corners c.parts))) h.0
      (sum_more (λ d. eqb d.board c.board) v c cs (eq-eqb c.board c.board refl))
      (λ k d. rw (ne_eqb c.board k (λ e. d (sym e))))
      ∙ ap (λ y. A.join y (join_all A (map A.unpack (at_vertex v c.corners c.parts))))
      (total_of_own n v cs h.1)
      ∙ sym (sum_more (λ d. true) v c cs refl)

  -- the undivided total is the join of the boards' own sums
  pub total_is_own : (s : Scene) → Sound s → (v : ℕ)
      → join_below A s.boards (λ p. own_sum A s p v) ≡ undivided A s v
  total_is_own s ok v = total_of_own s.boards v s.cells ok.owned

  -- joins along a list
  join_below_front : (n : ℕ) (f : ℕ → E)
      → join_below A (suc n) f ≡ A.join (f 0) (join_below A n (λ k. f (suc k)))
  join_below_front zero f = L.join_comm A.zero (f 0)
  join_below_front (suc n) f = ap (λ x. A.join x (f (suc n))) (join_below_front n f) ∙ L.join_assoc _ _ _

  pub join_below_list : {X : Type 0} (f : X → E) (xs : List X) (d : X)
      → join_below A (length xs) (λ m. f (get_or xs m d)) ≡ join_all A (map f xs)
  join_below_list f [] d = refl
  join_below_list f (x ∷ xs) d =
      join_below_front (length xs) (λ m. f (get_or (x ∷ xs) m d)) ∙ ap (A.join (f x)) (join_below_list f xs d)

  join_none : {X : Type 0} (f : X → E) (xs : List X) → AllByRecursion (λ x. f x ≡ A.zero) xs
      → join_all A (map f xs) ≡ A.zero
  join_none f [] h = refl
  join_none f (x ∷ xs) h = rw (h.0, join_none f xs h.1) (L.zero_join A.zero)

  -- of rising numbers, one alone counts
  join_one : (f : ℕ → E) (v : ℕ) (xs : List ℕ) → AllByRecursion (λ x. x ≢ v → f x ≡ A.zero) xs
      → Ordered (λ x y. x < y) xs
      → Among v xs → join_all A (map f xs) ≡ f v
  join_one f v [] h o m = absurd m
  join_one f v (x ∷ xs) h o m = elim (cases_eq x v) [
    | inl e ↦
        ap₂ A.join (ap f e)
        (join_none f xs (later xs h.1 (All-weaker _ (λ y. y ≢ v) (λ y l. omega arith) xs o.0)))
        ∙ L.join_zero (f v)
    | inr d ↦
        ap₂ A.join (h.0 d) (join_one f v xs h.1 o.1 (elim m [ inl e ↦ absurd (d e) | inr k ↦ k ]))
        ∙ L.zero_join (f v)
  ]
    where
      later : (ys : List ℕ) → AllByRecursion (λ x. x ≢ v → f x ≡ A.zero) ys → AllByRecursion (λ y. y ≢ v) ys
          → AllByRecursion (λ x. f x ≡ A.zero) ys
      later [] a b = tt
      later (y ∷ ys) a b = (a.0 b.0, later ys a.1 b.1)

module _ {E : Type 0} (A : Algebra E) (L : Lawful A) (s : Scene) where
  -- what an edge of board p brings to the copy with number c: the own sum of p, if c is the edge's root
  abbrev pub edge_part : ℕ → ℕ → Edge → E
  edge_part p c e = cond (eqb e.root c) (own_sum A s p e.vertex) A.zero

  -- what the edges from board p to board q bring to it
  abbrev pub brought : ℕ → ℕ → ℕ → E
  brought p q c = join_all A (map (edge_part p c) (edges_between (laid_edges s) p q))

  module _ (p q v : ℕ) (pb : p < s.boards) (qb : q < s.boards) (vb : v < s.vertices)
      (o : owner s v ≡ q) (d : p ≢ q) where
    share : ℕ → E
    share x = cond (eqb (number s q x) (number s q v)) (own_sum A s p x) A.zero

    root_kept : (x : ℕ) → owner s x ≡ q → keeps s q x ≡ true
    root_kept x h = subst (λ b. keeps s b x ≡ true) h (owner_keeps s x (omega arith))

    share_elsewhere : (x : ℕ) → x < s.vertices → owner s x ≡ q → x ≢ v → share x ≡ A.zero
    unfolding share
    share_elsewhere x xb h ne =
        rw (ne_eqb (number s q x) (number s q v)
        (λ e. ne (number_once s q q x v qb xb (root_kept x h) qb vb (root_kept v o) e).1))

    -- that is the own sum of the root's vertex
    pub brought_is : brought p q (number s q v) ≡ own_sum A s p v
    unfolding share
    brought_is =
        ap (λ es. join_all A (map (edge_part p (number s q v)) es))
        (between_is s p q pb qb)
        ∙ ap (join_all A) (map-map _ (edge_to s p q) (filter (ghost_of s p q) (range_with_len 0 s.vertices)))
        ∙ elim (cases_Bool (keeps s p v)) [
          | inl k ↦
              join_one A L share v _
              (All-weaker _ _ (λ x h. share_elsewhere x (omega arith) (ghost_says s p q x h.0).2) _
              (kept_within (ghost_of s p q) 0 s.vertices))
              (ordered_kept (λ x y. x < y) (ghost_of s p q) _ (ordered_counting 0 s.vertices))
              (among_counted (ghost_of s p q) v 0 s.vertices (says_ghost s p q v d k o) (omega arith) (omega arith))
              ∙ rw (eq-eqb (number s q v) (number s q v) refl)
          | inr k ↦
              join_none A L share _
              (All-weaker _ _
              (λ x h.
              let g = ghost_says s p q x h.0 in
              share_elsewhere x (omega arith) g.2
              (λ e. false≢true (sym k ∙ subst (λ y. keeps s p y ≡ true) e g.1)))
              _ (kept_within (ghost_of s p q) 0 s.vertices))
              ∙ sym (own_sum_zero A s p v (elim (cases_Bool (owns_cell_on s p v)) [
                | inr n ↦ n
                | inl w ↦ absurd (false≢true (sym k ∙ keeps_own s p v w))
              ]))
        ]

  pub brought_to_itself : (q c : ℕ) → brought q q c ≡ A.zero
  brought_to_itself q c =
      ap (λ es. join_all A (map (edge_part q c) es)) (between_self s q)

  -- the total at a root: its own sum, and what the edges bring
  pub total_at_root : Sound s → (q v : ℕ) → q < s.boards → v < s.vertices → owner s v ≡ q
      → undivided A s v
      ≡ A.join (own_sum A s q v) (join_below A s.boards (λ p. brought p q (number s q v)))
  total_at_root ok q v qb vb o =
      sym (total_is_own A L s ok v)
      ∙ join_below_bump A L s.boards others (λ p. own_sum A s p v) q (own_sum A s q v) qb at_root elsewhere
      ∙ ap (λ x. A.join x (own_sum A s q v)) (join_below_same A s.boards others _ others_bring)
      ∙ L.join_comm _ _
    where
      -- the own sums of all boards but q
      others : ℕ → E
      others p = cond (eqb p q) A.zero (own_sum A s p v)

      at_root : own_sum A s q v ≡ A.join (others q) (own_sum A s q v)
      at_root = rw (eq-eqb q q refl) (sym (L.zero_join _))

      elsewhere : (p : ℕ) → p ≢ q → own_sum A s p v ≡ others p
      elsewhere p d = rw (ne_eqb p q d)

      others_bring : (p : ℕ) → p < s.boards → others p ≡ brought p q (number s q v)
      others_bring p pb = elim (cases_eq p q) [
        | inl e ↦
            rw (eq-eqb p q e)
            (sym (ap (λ r. brought r q (number s q v)) e ∙ brought_to_itself q (number s q v)))
        | inr d ↦ rw (ne_eqb p q d) (sym (brought_is p q v pb qb vb o d))
      ]
