-- Each copy that is no root has one edge.
use Rattle.std.proofs.Common.{◌≡◌, ℕ, zero, suc, ◌+◌, ◌<◌, Bool, true, false, not, ◌&&◌, eqb, List, ◌++◌, map, length}
use Rattle.std.proofs.Common.{filter, get_or, None, Option, sym, refl, ap, ◌∙◌, inl, inr, arith}
use mir.Val.{bool_byte}
use Rattle.std.proofs.lemmas.Bool.{cases_eq, eq-eqb, ne_eqb}
use Rattle.std.proofs.lemmas.List.{length-append, length-map}
use Rattle.std.proofs.lemmas.List.Elements.{filter-append}
use Rattle.scene.specs.Cells.{Scene, Sound}
use Rattle.forest.specs.Forest.{owns_cell_on, keeps, owner, copies_of, laid_copies, laid_edges}
use Rattle.forest.specs.Meaning.{is_ghost}
use Rattle.forest.proofs.Overlap.{owner_keeps}
use Rattle.forest.proofs.Ghosts.{as_many_edges_as_ghosts}
use Rattle.laying.specs.declared.root.Root.{Root}
use Rattle.laying.specs.Rows.{many, lists_below, only, passes}
use Rattle.laying.specs.Tables.{owning, copy_record, root_copy, row_roots, roots_in}
use Rattle.laying.proofs.Counts.{joined_lists_below, lists_below_same, picked, many_same}
use Rattle.laying.proofs.Gather.{length_only}
use Rattle.laying.proofs.Lowest.{lowest_is}

filter_lists_below : {X : Type 0} (t : X → Bool) (f : ℕ → List X) (n : ℕ)
    → filter t (lists_below f n) ≡ lists_below (λ k. filter t (f k)) n
filter_lists_below t f zero = refl
filter_lists_below t f (suc n) =
    filter-append t (lists_below f n) (f n) ∙ ap (λ l. l ++ filter t (f n)) (filter_lists_below t f n)

filter_only : {X : Type 0} (t : X → Bool) (b : Bool) (x : X) → filter t (only b x) ≡ only (b && t x) x
filter_only t true x = refl
filter_only t false x = refl

-- numbers that pass are of two kinds
many_split : (t u w : ℕ → Bool) (n : ℕ)
    → ((k : ℕ) → k < n → bool_byte (t k) ≡ bool_byte (u k) + bool_byte (w k))
    → many t n ≡ many u n + many w n
many_split t u w zero h = refl
many_split t u w (suc n) h =
    let so_far = many_split t u w n (λ k l. h k (omega arith)) in
    omega (arith, h n (omega arith))

lengths_split : {X : Type 0} (f g h : ℕ → List X) (n : ℕ)
    → ((k : ℕ) → k < n → length (f k) ≡ length (g k) + length (h k))
    → length (lists_below f n) ≡ length (lists_below g n) + length (lists_below h n)
lengths_split f g h zero split = refl
lengths_split f g h (suc n) split =
    let so_far = lengths_split f g h n (λ k l. split k (omega arith)) in
    omega (
      arith,
      split n (omega arith),
      length-append (lists_below f n) (f n),
      length-append (lists_below g n) (g n),
      length-append (lists_below h n) (h n),
    )

not_its_own : (b : Bool) → bool_byte b ≡ bool_byte (b && true) + bool_byte false
not_its_own true = refl
not_its_own false = refl

module _ (s : Scene) (ok : Sound s) where
  -- a board's copy is a ghost, or the vertex belongs to the board
  ghost_or_root : (p v : ℕ) → p < s.boards
      → bool_byte (keeps s p v) ≡ bool_byte (keeps s p v && not (eqb p (owner s v))) + bool_byte (eqb (owner s v) p)
  ghost_or_root p v h =
      elim (cases_eq (owner s v) p) [
        | inl e ↦
            let low : owner s v < s.boards = omega arith in
            let kept : keeps s p v ≡ true = ap (λ q. keeps s q v) (sym e) ∙ owner_keeps s v low in
            rw (kept, eq-eqb p (owner s v) (sym e), eq-eqb (owner s v) p e) refl
        | inr d ↦
            rw (ne_eqb (owner s v) p d, ne_eqb p (owner s v) (λ e. d (sym e))) (not_its_own (keeps s p v))
      ]

  ghosts_of : (p : ℕ) → length (filter (is_ghost s) (copies_of s p))
      ≡ many (λ v. keeps s p v && not (eqb p (owner s v))) s.vertices
  ghosts_of p =
      let ghost = is_ghost s in
      ap (λ l. length (filter ghost l)) (picked (copy_record p) (keeps s p) s.vertices)
      ∙ ap length (filter_lists_below ghost (λ v. only (keeps s p v) (copy_record p v)) s.vertices)
      ∙ ap
      length
      (lists_below_same
      (λ v. filter ghost (only (keeps s p v) (copy_record p v)))
      (λ v. only (keeps s p v && not (eqb p (owner s v))) (copy_record p v))
      s.vertices
      (λ v l. filter_only ghost (keeps s p v) (copy_record p v)))
      ∙ length_only (λ v. keeps s p v && not (eqb p (owner s v))) (copy_record p) s.vertices

  module _ (owners : List (Option ℕ)) (owned : (v : ℕ) → v < s.vertices → get_or owners v None ≡ owning s v) where
    roots_of : (p : ℕ) → p < s.boards
        → length (row_roots owners s.vertices p) ≡ many (λ v. eqb (owner s v) p) s.vertices
    roots_of p h =
        let mine : ℕ → Bool = λ v. passes (λ o. eqb o p) (get_or owners v None) in
        length_only mine (copy_record p) s.vertices
        ∙ many_same mine (λ v. eqb (owner s v) p) s.vertices
        (λ v l.
        ap (passes (λ o. eqb o p)) (owned v l) ∙ sym (lowest_is (λ q. owns_cell_on s q v) s.boards p h))

    copies_split : (p : ℕ) → p < s.boards
        → length (copies_of s p)
        ≡ length (filter (is_ghost s) (copies_of s p)) + length (row_roots owners s.vertices p)
    copies_split p h =
        omega (
          arith,
          ap length (picked (copy_record p) (keeps s p) s.vertices),
          length_only (keeps s p) (copy_record p) s.vertices,
          many_split (keeps s p) (λ v. keeps s p v && not (eqb p (owner s v))) (λ v. eqb (owner s v) p) s.vertices
              (λ v l. ghost_or_root p v h),
          ghosts_of p,
          roots_of p h,
        )

    pub counted : (roots : List Root) → map root_copy roots ≡ roots_in owners s.vertices s.boards
        → length (laid_edges s) + length roots ≡ length (laid_copies s)
    counted roots all =
        omega (
          arith,
          as_many_edges_as_ghosts s ok,
          ap length (joined_lists_below (copies_of s) s.boards),
          ap (λ l. length (filter (is_ghost s) l)) (joined_lists_below (copies_of s) s.boards),
          ap length (filter_lists_below (is_ghost s) (copies_of s) s.boards),
          lengths_split
              (copies_of s)
              (λ p. filter (is_ghost s) (copies_of s p))
              (row_roots owners s.vertices)
              s.boards
              copies_split,
          length-map roots root_copy,
          ap length all,
        )
