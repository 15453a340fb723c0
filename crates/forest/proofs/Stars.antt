-- The laid plan of every sound scene is a star forest.
use Rattle.std.proofs.Common.{◌≡◌, ℕ, ◌<◌, true, ◌≢◌, ◌⊎◌, length, sym, refl, ap, ◌∙◌, subst, ap₂, inl, inr}
use Rattle.std.proofs.lemmas.Bool.{cases_eq}
use Rattle.scene.specs.Cells.{Scene, Sound}
use Rattle.plan.specs.Links.{no_edge}
use Rattle.forest.specs.Forest.{keeps, owner, number, edge_to, laid_copies, laid_edges}
use Rattle.forest.specs.Meaning.{ExactlyOne, OwnsCellOn, BelongsTo, copy_at, edge_at}
use Rattle.forest.specs.Meaning.{CopyOf, Root, LeadsFrom, StarForest}
use Rattle.forest.proofs.Members.{among_at}
use Rattle.forest.proofs.Owner.{owner_below, owning_below}
use Rattle.forest.proofs.Overlap.{keeps_own, kept_below, kept_is_owned, owner_keeps}
use Rattle.forest.proofs.Copies.{copy, copy_at_number, number_below, numbered}
use Rattle.forest.proofs.Copies.{copy_board_below, copy_vertex_below, copy_kept}
use Rattle.forest.proofs.Edges.{edge_laid, leaf_is_copy, leaf_below, root_is_copy, root_below}
use Rattle.forest.proofs.Edges.{edge_of_leaf, edge_once, ghost_has_edge}
use Rattle.forest.proofs.Ghosts.{as_many_edges_as_ghosts}
use Rattle.forest.proofs.Relations.{keeps_says, says_keeps, says_owns, belongs_to_owner, belongs_is_owner}

module _ (s : Scene) (ok : Sound s) where
  kept_once : (p v : ℕ) → keeps s p v ≡ true → ExactlyOne (CopyOf s p v)
  kept_once p v h =
      let (pb, vb) = kept_below s ok p v h in
      let at = copy_at_number s p v pb vb h in (
        number s p v,
        (number_below s p v pb vb h, ap (λ r. r.board) at, ap (λ r. r.vertex) at),
        λ c (l, b, w). sym (numbered s c l) ∙ ap₂ (number s) b w,
      )

  owned : (p v : ℕ) → OwnsCellOn s p v → owner s v < s.boards
  owned p v h = let w = says_owns s p v h in owner_below s p v (owning_below s ok p v w) w

  -- the owner of a copy's vertex is a board of the scene, and roots are the copies of owners
  copy_owned : (c : ℕ) → c < length (laid_copies s) → owner s (copy_at s c).vertex < s.boards
  copy_owned c l = kept_is_owned s ok (copy_at s c).board (copy_at s c).vertex (copy_kept s c l)

  of_owner_is_root : (c v : ℕ) → owner s v < s.boards → (copy_at s c).board ≡ owner s v → (copy_at s c).vertex ≡ v
      → Root s c
  of_owner_is_root c v l b w =
      subst (λ q. BelongsTo s q (copy_at s c).vertex) (sym b)
      (subst (λ u. BelongsTo s (owner s v) u) (sym w) (belongs_to_owner s ok v l))

  root_of_owner : (c : ℕ) → Root s c → (copy_at s c).board ≡ owner s (copy_at s c).vertex
  root_of_owner c r = belongs_is_owner s ok (copy_at s c).board (copy_at s c).vertex r

  one_root : (p v : ℕ) → OwnsCellOn s p v
      → ExactlyOne (λ c. (c < length (laid_copies s)) × ((copy_at s c).vertex ≡ v) × Root s c)
  one_root p v h =
      let below = owned p v h in
      let (c, (l, b, w), once) = kept_once (owner s v) v (owner_keeps s v below) in (
        c,
        (l, w, of_owner_is_root c v below b w),
        λ m (ml, mw, r). once m (ml, root_of_owner m r ∙ ap (owner s) mw, mw),
      )

  -- no edge leads from a root
  no_edge_from_root : (c : ℕ) → Root s c → (e : ℕ) → LeadsFrom s c e → ⊥
  no_edge_from_root c r e (l, is) =
      let h = edge_laid s e l in
      let at : copy_at s c ≡ copy (edge_at s e).from (edge_at s e).vertex =
      ap (copy_at s) (sym is) ∙ leaf_is_copy s (edge_at s e) h in
      h.apart (sym (ap (λ x. x.board) at) ∙ root_of_owner c r ∙ ap (λ x. owner s x.vertex) at ∙ h.owned)

  one_edge_from_ghost : (c : ℕ) → c < length (laid_copies s)
      → ((copy_at s c).board ≡ owner s (copy_at s c).vertex → ⊥) → ExactlyOne (LeadsFrom s c)
  one_edge_from_ghost c l d =
      let p : ℕ = (copy_at s c).board in
      let v : ℕ = (copy_at s c).vertex in
      let (e, el, is) =
      among_at (laid_edges s) no_edge (edge_to s p (owner s v) v)
      (ghost_has_edge s p v (copy_board_below s c l) (copy_vertex_below s c l)
      (copy_owned c l) (copy_kept s c l) d) in
      let leaf : (edge_at s e).leaf ≡ c = ap (λ x. x.leaf) is ∙ numbered s c l in (
        e,
        (el, leaf),
        λ f (fl, same). edge_once s f e fl el
            (edge_of_leaf s (edge_at s f) (edge_at s e) (edge_laid s f fl) (edge_laid s e el) (same ∙ sym leaf)),
      )

  root_or_leaf : (c : ℕ) → c < length (laid_copies s)
      → (Root s c × ((e : ℕ) → LeadsFrom s c e → ⊥)) ⊎ ((Root s c → ⊥) × ExactlyOne (LeadsFrom s c))
  root_or_leaf c l = elim (cases_eq (copy_at s c).board (owner s (copy_at s c).vertex)) [
    | inl b ↦
        let r = of_owner_is_root c (copy_at s c).vertex (copy_owned c l) b refl in
        inl (r, no_edge_from_root c r)
    | inr d ↦ inr (λ r. d (root_of_owner c r), one_edge_from_ghost c l d)
  ]

  edges_lead_to_roots : (e : ℕ) → e < length (laid_edges s)
      → CopyOf s (edge_at s e).from (edge_at s e).vertex (edge_at s e).leaf
      × CopyOf s (edge_at s e).to (edge_at s e).vertex (edge_at s e).root
      × Root s (edge_at s e).root × ((edge_at s e).from ≢ (edge_at s e).to)
  edges_lead_to_roots e l =
      let h = edge_laid s e l in
      let leaf = leaf_is_copy s (edge_at s e) h in
      let root = root_is_copy s (edge_at s e) h in
      let below : owner s (edge_at s e).vertex < s.boards =
      subst (λ q. q < s.boards) (sym h.owned) h.to_below in (
        (leaf_below s (edge_at s e) h, ap (λ x. x.board) leaf, ap (λ x. x.vertex) leaf),
        (root_below s (edge_at s e) h, ap (λ x. x.board) root, ap (λ x. x.vertex) root),
        of_owner_is_root (edge_at s e).root (edge_at s e).vertex below
            (ap (λ x. x.board) root ∙ sym h.owned) (ap (λ x. x.vertex) root),
        h.apart,
      )

  pub star_forest : StarForest s
  star_forest = record {
    copies_are_kept = λ c l. keeps_says s (copy_at s c).board (copy_at s c).vertex (copy_kept s c l);
    kept_once = λ p v h. kept_once p v (says_keeps s p v h);
    own_vertices_kept = λ p v h. keeps_says s p v (keeps_own s p v (says_owns s p v h));
    owned = λ p v h. belongs_to_owner s ok v (owned p v h);
    one_root = one_root;
    root_or_leaf = root_or_leaf;
    edges_lead_to_roots = edges_lead_to_roots;
    as_many_edges_as_ghosts = as_many_edges_as_ghosts s ok;
  }
