-- The laid plan of a sound scene keeps all that a run needs of a plan.
use Rattle.std.proofs.Common.{◌≡◌, ℕ, zero, suc, ◌+◌, ◌<◌, Bool, true, cond, ◌&&◌, eqb, ltb, ◌≢◌, ◌⊎◌, List, length}
use Rattle.std.proofs.Common.{get_or, sum_by, sym, refl, ap, ◌∙◌, subst, inl, inr}
use mathlib.Core.Path.{fun_ext}
use Rattle.std.specs.List.{range_with_len}
use Rattle.std.proofs.lemmas.List.Sums.{sum_by_push}
use Rattle.std.proofs.lemmas.Bool.{cases_eq, eq-eqb, eqb-true, lt-ltb, ltb-true, and_parts, and_from}
use Rattle.element.specs.Algebra.{Algebra, Lawful}
use Rattle.element.specs.Join.{join_below}
use Rattle.element.proofs.Joins.{join_below_same}
use Rattle.scene.specs.Cells.{Scene, Sound}
use Rattle.scene.specs.Sums.{own_sum, undivided}
use Rattle.plan.specs.declared.records.Edge.{Edge}
use Rattle.plan.specs.Links.{no_edge, edges_between}
use Rattle.forest.specs.Forest.{owner, edge_to, edges_to, laid_copies, laid_edges}
use Rattle.forest.proofs.Members.{among_at}
use Rattle.forest.proofs.Filters.{counting_next}
use Rattle.forest.proofs.Overlap.{kept_is_owned}
use Rattle.forest.proofs.Copies.{numbered, copy_board_below, copy_vertex_below, copy_kept}
use Rattle.forest.proofs.Edges.{LaidEdge, leaf_is_copy, leaf_below, root_is_copy, root_below, edge_of_leaf}
use Rattle.forest.proofs.Edges.{edge_laid, ghost_between, between_is, between_self, between_laid}
use Rattle.forest.proofs.Edges.{between_from, between_to, between_once, edge_between, edges_counted}
use Rattle.forest.proofs.Totals as totals
use Rattle.protocol.specs.Runs.{laid}
use Rattle.protocol.specs.Promise.{copy_board, copy_vertex}
use Rattle.protocol.proofs.Plan.{Plan, part}
use Rattle.plan.specs.Sums.{sum_below}
use Rattle.protocol.proofs.Pairs.{pairs, pairs_same}
use Rattle.protocol.proofs.Tied.{OfScene}

module _ {M : Type 0} (A : Algebra M) (L : Lawful A) (s : Scene) (ok : Sound s) where
  -- the edges from leaf board p to root board q
  abbrev pub line : ℕ → ℕ → List Edge
  line p q = edges_between (laid_edges s) p q

  abbrev pub edge : ℕ → ℕ → ℕ → Edge
  edge p q m = get_or (line p q) m no_edge

  abbrev pub valid : ℕ → Bool
  valid c = ltb c (length (laid_copies s))

  -- the copy is that of its vertex's owner
  abbrev pub is_root : ℕ → Bool
  is_root c = valid c && eqb (owner s (copy_vertex A s c)) (copy_board A s c)

  abbrev pub own_of : ℕ → M
  own_of c = own_sum A s (copy_board A s c) (copy_vertex A s c)

  module _ (p q m : ℕ) (l : m < length (line p q)) where
    is_laid : LaidEdge s (edge p q m)
    is_laid = between_laid s p q m l

    pub leaf_board : copy_board A s (edge p q m).leaf ≡ p
    leaf_board = ap (λ r. r.board) (leaf_is_copy s (edge p q m) is_laid) ∙ between_from s p q m l

    leaf_vertex : copy_vertex A s (edge p q m).leaf ≡ (edge p q m).vertex
    leaf_vertex = ap (λ r. r.vertex) (leaf_is_copy s (edge p q m) is_laid)

    pub root_board : copy_board A s (edge p q m).root ≡ q
    root_board = ap (λ r. r.board) (root_is_copy s (edge p q m) is_laid) ∙ between_to s p q m l

    root_vertex : copy_vertex A s (edge p q m).root ≡ (edge p q m).vertex
    root_vertex = ap (λ r. r.vertex) (root_is_copy s (edge p q m) is_laid)

    pub leaf_valid : valid (edge p q m).leaf ≡ true
    leaf_valid = lt-ltb _ _ (leaf_below s (edge p q m) is_laid)

    pub roots_are_roots : is_root (edge p q m).root ≡ true
    roots_are_roots =
        and_from _ _ (lt-ltb _ _ (root_below s (edge p q m) is_laid))
        (eq-eqb _ _ (ap (owner s) root_vertex ∙ is_laid.owned ∙ between_to s p q m l ∙ sym root_board))

    pub leaves_are_no_roots : (c : ℕ) → is_root c ≡ true → c ≢ (edge p q m).leaf
    leaves_are_no_roots c h e =
        is_laid.apart
        (between_from s p q m l ∙ sym leaf_board ∙ ap (copy_board A s) (sym e)
        ∙ sym (eqb-true _ _ (and_parts (valid c) _ h).1)
        ∙ ap (λ c. owner s (copy_vertex A s c)) e ∙ ap (owner s) leaf_vertex ∙ is_laid.owned)

    pub total_along_edge :
        undivided A s (copy_vertex A s (edge p q m).leaf) ≡ undivided A s (copy_vertex A s (edge p q m).root)
    total_along_edge = ap (undivided A s) (leaf_vertex ∙ sym root_vertex)

  pub leaf_once : (p q r m k : ℕ) → m < length (line p q) → k < length (line p r)
      → (edge p q m).leaf ≡ (edge p r k).leaf → (q ≡ r) × (m ≡ k)
  leaf_once p q r m k lm lk e =
      let same : edge p q m ≡ edge p r k =
      edge_of_leaf s (edge p q m) (edge p r k) (is_laid p q m lm) (is_laid p r k lk) e in
      let qr : r ≡ q = sym (between_to s p r k lk) ∙ ap (λ e. e.to) (sym same) ∙ between_to s p q m lm in (
        sym qr,
        between_once s p q m k lm (subst (λ b. k < length (line p b)) qr lk) (same ∙ ap (λ b. edge p b k) qr),
      )

  pub root_or_leaf : (c : ℕ) → valid c ≡ true
      → (is_root c ≡ true)
      ⊎ ((q : ℕ) × (m : ℕ) × (q < s.boards) × (m < length (line (copy_board A s c) q))
      × ((edge (copy_board A s c) q m).leaf ≡ c))
  root_or_leaf c h =
      let l : c < length (laid_copies s) = ltb-true _ _ h in
      let p : ℕ = copy_board A s c in
      let v : ℕ = copy_vertex A s c in
      elim (cases_eq p (owner s v)) [
        | inl e ↦ inl (and_from _ _ h (eq-eqb _ _ (sym e)))
        | inr d ↦
            let ob = kept_is_owned s ok p v (copy_kept s c l) in
            let (m, ml, is) =
            among_at (line p (owner s v)) no_edge (edge_to s p (owner s v) v)
            (ghost_between s p v (copy_board_below s c l) (copy_vertex_below s c l) ob (copy_kept s c l) d) in
            inr (owner s v, m, ob, ml, ap (λ x. x.leaf) is ∙ numbered s c l)
      ]

  -- what an item of the link brings to a root, by edge and by number
  module _ (c : ℕ) (h : is_root c ≡ true) where
    brings_own : (p m : ℕ) → m < length (line p (copy_board A s c))
        → cond (eqb (edge p (copy_board A s c) m).root c) (own_sum A s p (edge p (copy_board A s c) m).vertex) A.zero
        ≡ cond (ltb m (length (line p (copy_board A s c))) && eqb (edge p (copy_board A s c) m).root c)
        (own_of (edge p (copy_board A s c) m).leaf) A.zero
    brings_own p m l =
        rw (
          lt-ltb m (length (line p (copy_board A s c))) l,
          leaf_board p (copy_board A s c) m l,
          leaf_vertex p (copy_board A s c) m l,
        )

    pub total_at_root : undivided A s (copy_vertex A s c)
        ≡ A.join (own_of c) (join_below A s.boards
        (λ p. part A (laid A s) own_of p (copy_board A s c) c (length (line p (copy_board A s c)))))
    total_at_root =
        let (v, w) = and_parts (valid c) _ h in
        let l : c < length (laid_copies s) = ltb-true _ _ v in
        let q : ℕ = copy_board A s c in
        totals.total_at_root A L s ok q (copy_vertex A s c)
        (copy_board_below s c l) (copy_vertex_below s c l) (eqb-true _ _ w)
        ∙ ap (A.join (own_of c)) (join_below_same A s.boards _ _ (λ p _.
        ap (λ n. totals.brought A L s p q n) (numbered s c l)
        ∙ sym (totals.join_below_list A L _ (line p q) no_edge)
        ∙ join_below_same A (length (line p q)) _ _ (λ m ml. brings_own p m ml)))

  unfoldable pub laid_plan : Plan A
  laid_plan = record {
    shape = laid A s;
    board = copy_board A s;
    valid = valid;
    is_root = is_root;
    own = own_of;
    total = λ c. undivided A s (copy_vertex A s c);
    leaf_board = leaf_board;
    root_board = root_board;
    leaf_once = leaf_once;
    roots_are_roots = roots_are_roots;
    leaves_are_no_roots = λ p q m c l. leaves_are_no_roots p q m l c;
    no_self = λ p. ap length (between_self s p);
    leaf_valid = leaf_valid;
    root_valid = λ c h. (and_parts (valid c) _ h).0;
    root_or_leaf = root_or_leaf;
    total_along_edge = total_along_edge;
    total_at_root = total_at_root;
  }

  -- the edges between all pairs of boards are all the edges
  sum_is : (n : ℕ) (f : ℕ → ℕ) → sum_below n f ≡ sum_by f (range_with_len 0 n)
  sum_is zero f = refl
  sum_is (suc n) f =
      ap (λ x. x + f n) (sum_is n f) ∙ sym (ap (sum_by f) (counting_next n) ∙ sum_by_push f (range_with_len 0 n) n)

  pairs_counted : pairs s.boards (λ p q. length (line p q)) ≡ length (laid_edges s)
  pairs_counted =
      pairs_same s.boards _ (λ p q. length (edges_to s p q)) (λ p q pb qb. ap length (between_is s p q pb qb))
      ∙ sum_is s.boards _
      ∙ ap (λ f. sum_by f (range_with_len 0 s.boards)) (fun_ext (λ p. sum_is s.boards (λ q. length (edges_to s p q))))
      ∙ sym (edges_counted s)

  pub laid_plan_of_scene : OfScene laid_plan s
  unfolding laid_plan
  laid_plan_of_scene = record {
    shape_is = refl;
    is_valid = λ c l. lt-ltb _ _ l;
    valid_is = λ c h. ltb-true _ _ h;
    board_is = λ c l. refl;
    own_is = λ c l. refl;
    total_is = λ c l. refl;
    edge_found = λ e l.
        let (m, ml, at) = edge_between s e l in (
          (get_or (laid_edges s) e no_edge).from,
          (get_or (laid_edges s) e no_edge).to,
          m,
          (edge_laid s e l).from_below,
          ml,
          ap (λ x. x.leaf) at,
        );
    edges_counted = pairs_counted;
  }
