-- The laid edges: each names its two copies, they rise, and those between two boards are the edges of that pair.
use Rattle.std.proofs.Common.{◌≡◌, ℕ, ◌+◌, ◌<◌, ◌≤◌, true, false, not, eqb, ◌≢◌, ◌⊎◌, [], length, get_or, sum_by}
use Rattle.std.proofs.Common.{filter, sym, refl, ap, ◌∙◌, subst, inl, inr, arith}
use mathlib.Core.Path.{fun_ext}
use Rattle.std.specs.List.{range_with_len, AllByRecursion}
use Rattle.std.proofs.lemmas.Bool.{cases_Bool, eqb-true, eqb-false, eq-eqb, ne_eqb, and_parts, and_from, and_left}
use Rattle.std.proofs.lemmas.Bool.{and_right, not-true}
use Rattle.std.proofs.ByRecursion.{All-weaker, All-get_or, All-map, all_kept_by, kept_by_passes}
use Rattle.plan.specs.declared.records.Edge.{Edge}
use Rattle.plan.specs.Links.{no_copy, no_edge, joins, edges_between}
use Rattle.scene.specs.Cells.{Scene}
use Rattle.forest.specs.Forest.{keeps, owner, number, ghost_of, edge_to, edges_to, edges_of, laid_copies, laid_edges}
use Rattle.forest.proofs.Members.{Among, at_among, among_at, among_kept, among_map, all_given, kept_all, kept_none}
use Rattle.forest.proofs.Filters.{kept_within, among_counted, all_joined, among_joined, length_joined, kept_joined}
use Rattle.forest.proofs.Ordered.{Ordered, ordered_kept, ordered_map, ordered_joined, ordered_once, ordered_counting}
use Rattle.forest.proofs.Overlap.{owner_keeps}
use Rattle.forest.proofs.Copies.{copy, copy_at_number, number_below}

-- what an edge of the scene's plan is: from a ghost to the copy of its vertex's owner
pub record LaidEdge (s : Scene) (e : Edge) : Type 0 where
  pub from_below : e.from < s.boards
  pub to_below : e.to < s.boards
  pub vertex_below : e.vertex < s.vertices
  pub apart : e.from ≢ e.to
  pub kept : keeps s e.from e.vertex ≡ true
  pub owned : owner s e.vertex ≡ e.to
  pub leaf_is : e.leaf ≡ number s e.from e.vertex
  pub root_is : e.root ≡ number s e.to e.vertex

-- by leaf board, then root board, then vertex
abbrev pub EdgeBefore : Edge → Edge → Type 0
EdgeBefore x y =
    (x.from < y.from)
    ⊎ ((x.from ≡ y.from) × ((x.to < y.to) ⊎ ((x.to ≡ y.to) × (x.vertex < y.vertex))))

pub edge_not_before_itself : (e : Edge) → EdgeBefore e e → ⊥
edge_not_before_itself e h = elim h [
  | inl l ↦ omega arith
  | inr (_, inl l) ↦ omega arith
  | inr (_, inr l) ↦ omega (arith, l.1)
]

module _ (s : Scene) where
  pub ghost_says : (p q v : ℕ) → ghost_of s p q v ≡ true
      → (p ≢ q) × (keeps s p v ≡ true) × (owner s v ≡ q)
  ghost_says p q v h =
      let (a, b) = and_parts (not (eqb p q)) _ h in
      let (c, d) = and_parts (keeps s p v) _ b in
      (eqb-false p q (not-true _ a), c, eqb-true _ _ d)

  pub says_ghost : (p q v : ℕ) → p ≢ q → keeps s p v ≡ true → owner s v ≡ q → ghost_of s p q v ≡ true
  says_ghost p q v d k o = and_from _ _ (rw (ne_eqb p q d)) (and_from _ _ k (eq-eqb _ _ o))

  edges_to_laid : (p q : ℕ) → p < s.boards → q < s.boards → AllByRecursion (LaidEdge s) (edges_to s p q)
  edges_to_laid p q pb qb =
      All-map _ (edge_to s p q) _ (All-weaker _ _ edge _ (kept_within (ghost_of s p q) 0 s.vertices))
    where
      edge : (v : ℕ) → (ghost_of s p q v ≡ true) × (0 ≤ v) × (v < 0 + s.vertices) → LaidEdge s (edge_to s p q v)
      edge v h =
          let (d, k, o) = ghost_says p q v h.0 in
          record {
            from_below = pb;
            to_below = qb;
            vertex_below = omega arith;
            apart = d;
            kept = k;
            owned = o;
            leaf_is = refl;
            root_is = refl;
          }

  pub edges_laid : AllByRecursion (LaidEdge s) (laid_edges s)
  edges_laid = all_joined _ (edges_of s) 0 s.boards (λ p _ pb.
      all_joined _ (edges_to s p) 0 s.boards (λ q _ qb. edges_to_laid p q (omega arith) (omega arith)))

  pub edge_laid : (e : ℕ) → e < length (laid_edges s) → LaidEdge s (get_or (laid_edges s) e no_edge)
  edge_laid e l = All-get_or _ (laid_edges s) e no_edge l edges_laid

  -- an edge's copies
  module _ (e : Edge) (h : LaidEdge s e) where
    pub root_kept : keeps s e.to e.vertex ≡ true
    root_kept =
        let l : owner s e.vertex < s.boards = omega (arith, h.owned, h.to_below) in
        subst (λ q. keeps s q e.vertex ≡ true) h.owned (owner_keeps s e.vertex l)

    pub leaf_is_copy : get_or (laid_copies s) e.leaf no_copy ≡ copy e.from e.vertex
    leaf_is_copy =
        ap (λ c. get_or (laid_copies s) c no_copy) h.leaf_is
        ∙ copy_at_number s e.from e.vertex h.from_below h.vertex_below h.kept

    pub leaf_below : e.leaf < length (laid_copies s)
    leaf_below =
        subst (λ c. c < length (laid_copies s)) (sym h.leaf_is)
        (number_below s e.from e.vertex h.from_below h.vertex_below h.kept)

    pub root_is_copy : get_or (laid_copies s) e.root no_copy ≡ copy e.to e.vertex
    root_is_copy =
        ap (λ c. get_or (laid_copies s) c no_copy) h.root_is
        ∙ copy_at_number s e.to e.vertex h.to_below h.vertex_below root_kept

    pub root_below : e.root < length (laid_copies s)
    root_below =
        subst (λ c. c < length (laid_copies s)) (sym h.root_is)
        (number_below s e.to e.vertex h.to_below h.vertex_below root_kept)

  -- an edge is known by its leaf's board and vertex, and by its leaf
  pub same_edge : (e f : Edge) → LaidEdge s e → LaidEdge s f → e.from ≡ f.from → e.vertex ≡ f.vertex → e ≡ f
  same_edge e f a b from vertex =
      let to : e.to ≡ f.to = sym a.owned ∙ ap (owner s) vertex ∙ b.owned in
      let leaf : e.leaf ≡ f.leaf =
      a.leaf_is ∙ ap (λ p. number s p e.vertex) from ∙ ap (number s f.from) vertex ∙ sym b.leaf_is in
      let root : e.root ≡ f.root =
      a.root_is ∙ ap (λ p. number s p e.vertex) to ∙ ap (number s f.to) vertex ∙ sym b.root_is in
      λ i. record { from = from i; to = to i; vertex = vertex i; leaf = leaf i; root = root i }

  pub edge_of_leaf : (e f : Edge) → LaidEdge s e → LaidEdge s f → e.leaf ≡ f.leaf → e ≡ f
  edge_of_leaf e f a b same =
      let copies : copy e.from e.vertex ≡ copy f.from f.vertex =
      sym (leaf_is_copy e a) ∙ ap (λ c. get_or (laid_copies s) c no_copy) same ∙ leaf_is_copy f b in
      same_edge e f a b (ap (λ r. r.board) copies) (ap (λ r. r.vertex) copies)

  -- the boards of the edges of one board, and of one pair
  pub edges_to_join : (p q : ℕ) → AllByRecursion (λ e. (e.from ≡ p) × (e.to ≡ q)) (edges_to s p q)
  edges_to_join p q =
      All-map _ (edge_to s p q) _
      (all_given _ (λ v. (refl, refl)) (filter (ghost_of s p q) (range_with_len 0 s.vertices)))

  pub edges_of_from : (p : ℕ) → AllByRecursion (λ e. e.from ≡ p) (edges_of s p)
  edges_of_from p =
      all_joined _ (edges_to s p) 0 s.boards (λ q _ _. All-weaker _ _ (λ e h. h.0) _ (edges_to_join p q))

  -- they rise by leaf board, then root board, then vertex
  pub edges_rise : Ordered EdgeBefore (laid_edges s)
  edges_rise =
      ordered_joined EdgeBefore (λ p e. e.from ≡ p) (λ p q x y l a b. inl (omega arith))
      (edges_of s) edges_of_from (λ p. of_board p) 0 s.boards
    where
      of_pair : (p q : ℕ) → Ordered EdgeBefore (edges_to s p q)
      of_pair p q =
          ordered_map EdgeBefore (λ v w. v < w) (edge_to s p q) (λ v w l. inr (refl, inr (refl, l))) _
          (ordered_kept (λ v w. v < w) (ghost_of s p q) _ (ordered_counting 0 s.vertices))

      of_board : (p : ℕ) → Ordered EdgeBefore (edges_of s p)
      of_board p =
          ordered_joined EdgeBefore (λ q e. (e.from ≡ p) × (e.to ≡ q))
          (λ q r x y l a b. inr (a.0 ∙ sym b.0, inl (omega arith)))
          (edges_to s p) (edges_to_join p) (of_pair p) 0 s.boards

  pub edge_once : (m k : ℕ) → m < length (laid_edges s) → k < length (laid_edges s)
      → get_or (laid_edges s) m no_edge ≡ get_or (laid_edges s) k no_edge → m ≡ k
  edge_once = ordered_once EdgeBefore edge_not_before_itself (laid_edges s) no_edge edges_rise

  -- the edges between two boards
  not_from : (p q k : ℕ) (e : Edge) → k ≢ p → e.from ≡ k → joins p q e ≡ false
  not_from p q k e d h = and_left _ _ (ne_eqb e.from p (λ x. d (sym h ∙ x)))

  not_to : (p q k : ℕ) (e : Edge) → k ≢ q → e.to ≡ k → joins p q e ≡ false
  not_to p q k e d h = and_right _ _ (ne_eqb e.to q (λ x. d (sym h ∙ x)))

  pub between_is : (p q : ℕ) → p < s.boards → q < s.boards → edges_between (laid_edges s) p q ≡ edges_to s p q
  between_is p q pb qb =
      kept_joined (joins p q) (edges_of s) p
      (λ k d. All-weaker _ _ (λ e h. not_from p q k e d h) _ (edges_of_from k))
      0 s.boards (omega arith) (omega arith)
      ∙ kept_joined (joins p q) (edges_to s p) q
      (λ k d. All-weaker _ _ (λ e h. not_to p q k e d h.1) _ (edges_to_join p k))
      0 s.boards (omega arith) (omega arith)
      ∙ kept_all (joins p q) (edges_to s p q)
      (All-weaker _ _ (λ e h. and_from _ _ (eq-eqb _ _ h.0) (eq-eqb _ _ h.1)) _ (edges_to_join p q))

  pub between_none : (p q : ℕ) → (s.boards ≤ p) ⊎ (s.boards ≤ q) → edges_between (laid_edges s) p q ≡ []
  between_none p q h = kept_none (joins p q) (laid_edges s) (All-weaker _ _ past _ edges_laid)
    where
      past : (e : Edge) → LaidEdge s e → joins p q e ≡ false
      past e a = elim h [
        | inl l ↦ and_left _ _ (ne_eqb e.from p (λ x. omega (arith, a.from_below)))
        | inr l ↦ and_right _ _ (ne_eqb e.to q (λ x. omega (arith, a.to_below)))
      ]

  pub between_self : (p : ℕ) → edges_between (laid_edges s) p p ≡ []
  between_self p = kept_none (joins p p) (laid_edges s) (All-weaker _ _ never _ edges_laid)
    where
      never : (e : Edge) → LaidEdge s e → joins p p e ≡ false
      never e a = elim (cases_Bool (joins p p e)) [
        | inr h ↦ h
        | inl h ↦
            let (x, y) = and_parts (eqb e.from p) _ h in
            absurd (a.apart (eqb-true _ _ x ∙ sym (eqb-true _ _ y)))
      ]

  module _ (p q m : ℕ) (l : m < length (edges_between (laid_edges s) p q)) where
    pub between_laid : LaidEdge s (get_or (edges_between (laid_edges s) p q) m no_edge)
    between_laid = All-get_or _ _ m no_edge l (all_kept_by (joins p q) (LaidEdge s) (laid_edges s) edges_laid)

    between_joins : joins p q (get_or (edges_between (laid_edges s) p q) m no_edge) ≡ true
    between_joins = All-get_or (λ e. joins p q e ≡ true) _ m no_edge l (kept_by_passes (joins p q) (laid_edges s))

    pub between_from : (get_or (edges_between (laid_edges s) p q) m no_edge).from ≡ p
    between_from = eqb-true _ _ (and_parts _ _ between_joins).0

    pub between_to : (get_or (edges_between (laid_edges s) p q) m no_edge).to ≡ q
    between_to = eqb-true _ _ (and_parts _ _ between_joins).1

  pub between_once : (p q m k : ℕ) → m < length (edges_between (laid_edges s) p q)
      → k < length (edges_between (laid_edges s) p q)
      → get_or (edges_between (laid_edges s) p q) m no_edge ≡ get_or (edges_between (laid_edges s) p q) k no_edge
      → m ≡ k
  between_once p q =
      ordered_once EdgeBefore edge_not_before_itself (edges_between (laid_edges s) p q) no_edge
      (ordered_kept EdgeBefore (joins p q) (laid_edges s) edges_rise)

  -- each edge is one of those between its boards
  pub edge_between : (e : ℕ) → e < length (laid_edges s)
      → (m : ℕ)
      × (m < length (edges_between (laid_edges s)
      (get_or (laid_edges s) e no_edge).from (get_or (laid_edges s) e no_edge).to))
      × (get_or (edges_between (laid_edges s) (get_or (laid_edges s) e no_edge).from
      (get_or (laid_edges s) e no_edge).to)
      m no_edge ≡ get_or (laid_edges s) e no_edge)
  edge_between e l =
      let x : Edge = get_or (laid_edges s) e no_edge in
      among_at (edges_between (laid_edges s) x.from x.to) no_edge x
      (among_kept (joins x.from x.to) (laid_edges s) x (at_among (laid_edges s) no_edge e l)
      (and_from _ _ (eq-eqb x.from x.from refl) (eq-eqb x.to x.to refl)))

  -- each ghost is the leaf of an edge
  pub ghost_has_edge : (p v : ℕ) → p < s.boards → v < s.vertices → owner s v < s.boards
      → keeps s p v ≡ true → p ≢ owner s v → Among (edge_to s p (owner s v) v) (laid_edges s)
  ghost_has_edge p v pb vb ob k d =
      among_joined (edges_of s) _ p 0 s.boards (omega arith) (omega arith)
      (among_joined (edges_to s p) _ (owner s v) 0 s.boards (omega arith) (omega arith)
      (among_map (edge_to s p (owner s v)) _ v
      (among_counted (ghost_of s p (owner s v)) v 0 s.vertices (says_ghost p (owner s v) v d k refl)
      (omega arith) (omega arith))))

  pub ghost_between : (p v : ℕ) → p < s.boards → v < s.vertices → owner s v < s.boards
      → keeps s p v ≡ true → p ≢ owner s v
      → Among (edge_to s p (owner s v) v) (edges_between (laid_edges s) p (owner s v))
  ghost_between p v pb vb ob k d =
      among_kept (joins p (owner s v)) (laid_edges s) _ (ghost_has_edge p v pb vb ob k d)
      (and_from _ _ (eq-eqb p p refl) (eq-eqb (owner s v) (owner s v) refl))

  -- how many edges there are
  pub edges_counted : length (laid_edges s)
      ≡ sum_by (λ p. sum_by (λ q. length (edges_to s p q)) (range_with_len 0 s.boards)) (range_with_len 0 s.boards)
  edges_counted =
      length_joined (edges_of s) (range_with_len 0 s.boards)
      ∙ ap (λ f. sum_by f (range_with_len 0 s.boards))
      (fun_ext (λ p. length_joined (edges_to s p) (range_with_len 0 s.boards)))
