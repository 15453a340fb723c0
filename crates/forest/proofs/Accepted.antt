-- The laid records keep the rules of a plan.
use Rattle.std.proofs.Common.{◌≡◌, ℕ, ◌<◌, Bool, true, List, [], ◌∷◌, length, get_or, refl, ap, inl, inr, arith}
use Rattle.std.specs.List.{AllByRecursion}
use Rattle.std.proofs.lemmas.Bool.{lt-ltb, le-leb, eq-eqb, ne_eqb, and_from, or_left, or_right, not_from_false}
use Rattle.std.proofs.ByRecursion.{All-weaker}
use Rattle.scene.specs.Cells.{Scene, Sound}
use Rattle.plan.specs.declared.records.CopyRecord.{CopyRecord}
use Rattle.plan.specs.declared.records.Edge.{Edge}
use Rattle.plan.specs.Links.{no_copy}
use Rattle.plan.specs.Sound.{each, first_passes, rising, copy_before, edge_before, copy_fits, is_copy}
use Rattle.plan.specs.Sound.{edge_fits, sound_copies, sound_edges, sound_plan}
use Rattle.forest.specs.Forest.{keeps, laid_copies, laid_edges}
use Rattle.forest.proofs.Ordered.{Ordered}
use Rattle.forest.proofs.Copies.{Before, copy, copies_kept, copies_rise}
use Rattle.forest.proofs.Edges.{LaidEdge, EdgeBefore, edges_laid, edges_rise, leaf_is_copy, leaf_below}
use Rattle.forest.proofs.Edges.{root_is_copy, root_below}

module _ {X : Type 0} where
  each_passes : (t : X → Bool) (xs : List X) → AllByRecursion (λ x. t x ≡ true) xs → each t xs ≡ true
  each_passes t [] h = refl
  each_passes t (x ∷ xs) h = and_from _ _ h.0 (each_passes t xs h.1)

  rises : (before : X → X → Bool) (R : X → X → Type 0) → ((x y : X) → R x y → before x y ≡ true)
      → (xs : List X) → Ordered R xs → rising before xs ≡ true
  rises before R h [] o = refl
  rises before R h (x ∷ xs) o = and_from _ _ (first xs o.0) (rises before R h xs o.1)
    where
      first : (ys : List X) → AllByRecursion (R x) ys → first_passes (before x) ys ≡ true
      first [] a = refl
      first (y ∷ ys) a = h x y a.0

copies_before_too : (c d : CopyRecord) → Before c d → copy_before c d ≡ true
copies_before_too c d h = elim h [
  | inl l ↦ or_left _ _ (lt-ltb _ _ l)
  | inr (e, l) ↦ or_right _ _ (and_from _ _ (eq-eqb _ _ e) (lt-ltb _ _ l))
]

edges_before_too : (e f : Edge) → EdgeBefore e f → edge_before e f ≡ true
edges_before_too e f h = elim h [
  | inl l ↦ or_left _ _ (lt-ltb _ _ l)
  | inr (a, inl l) ↦ or_right _ _ (and_from _ _ (eq-eqb _ _ a) (or_left _ _ (lt-ltb _ _ l)))
  | inr (a, inr k) ↦
      or_right _ _
      (and_from _ _ (eq-eqb _ _ a) (or_right _ _ (and_from _ _ (eq-eqb _ _ k.0) (lt-ltb _ _ k.1))))
]

module _ (s : Scene) (ok : Sound s) where
  pub laid_copies_are_sound : sound_copies s.boards (laid_copies s) ≡ true
  laid_copies_are_sound =
      and_from _ _
      (each_passes (copy_fits s.boards) (laid_copies s) (All-weaker _ _ fits _ (copies_kept s)))
      (rises copy_before Before copies_before_too (laid_copies s) (copies_rise s))
    where
      fits : (r : CopyRecord)
          → (r.board < s.boards) × (r.vertex < s.vertices) × (keeps s r.board r.vertex ≡ true)
          → copy_fits s.boards r ≡ true
      fits r (b, v, _) = and_from _ _ (lt-ltb _ _ b) (lt-ltb r.vertex 1024 (omega (arith, ok.few_vertices)))

  is_copy_at : (k p v : ℕ) → k < length (laid_copies s) → get_or (laid_copies s) k no_copy ≡ copy p v
      → is_copy (laid_copies s) k p v ≡ true
  is_copy_at k p v l e =
      and_from _ _ (lt-ltb _ _ l)
      (and_from _ _ (eq-eqb _ _ (ap (λ r. r.board) e)) (eq-eqb _ _ (ap (λ r. r.vertex) e)))

  pub laid_edges_are_sound : sound_edges s.boards (laid_copies s) (laid_edges s) ≡ true
  laid_edges_are_sound =
      and_from _ _
      (each_passes (edge_fits s.boards (laid_copies s)) (laid_edges s) (All-weaker _ _ fits _ (edges_laid s)))
      (rises edge_before EdgeBefore edges_before_too (laid_edges s) (edges_rise s))
    where
      fits : (e : Edge) → LaidEdge s e → edge_fits s.boards (laid_copies s) e ≡ true
      fits e h =
          and_from _ _
          (and_from _ _ (lt-ltb _ _ h.from_below) (and_from _ _ (lt-ltb _ _ h.to_below)
          (lt-ltb e.vertex 1024 (omega (arith, h.vertex_below, ok.few_vertices)))))
          (and_from _ _ (not_from_false _ (ne_eqb e.from e.to h.apart))
          (and_from _ _
          (is_copy_at e.leaf e.from e.vertex (leaf_below s e h) (leaf_is_copy s e h))
          (is_copy_at e.root e.to e.vertex (root_below s e h) (root_is_copy s e h))))

  pub laid_plan_is_sound : sound_plan s.boards (laid_copies s) (laid_edges s) ≡ true
  laid_plan_is_sound =
      and_from _ _ (and_from _ _ (le-leb _ _ ok.some_board) (le-leb _ _ ok.few_boards))
      (and_from _ _ laid_copies_are_sound laid_edges_are_sound)
