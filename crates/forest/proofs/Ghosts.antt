-- There are as many edges as ghosts.
use Rattle.std.proofs.Common.{◌≡◌, ℕ, zero, suc, ◌+◌, Bool, true, false, not, ◌&&◌, eqb, ltb, List, [], ◌∷◌, ◌++◌}
use Rattle.std.proofs.Common.{map, length, sum_by, filter, sym, refl, ap, ◌∙◌, subst, inl, inr, arith}
use mathlib.Core.Path.{fun_ext}
use Rattle.std.specs.List.{range_with_len, flat_map}
use Rattle.std.proofs.lemmas.List.{length-map}
use Rattle.std.proofs.lemmas.List.Sums.{sum_by_push}
use Rattle.std.proofs.lemmas.List.Elements.{filter-append}
use Rattle.std.proofs.lemmas.Bool.{cases_eq, cases_Bool, cases_order, eq-eqb, ne_eqb, lt-ltb, le-ltb, and_right}
use Rattle.scene.specs.Cells.{Scene, Sound}
use Rattle.forest.specs.Forest.{keeps, owner, ghost_of, edge_to, edges_to, edges_of, copies_of, laid_copies}
use Rattle.forest.specs.Forest.{laid_edges}
use Rattle.forest.specs.Meaning.{is_ghost}
use Rattle.forest.proofs.Filters.{counting_next, length_joined}
use Rattle.forest.proofs.Overlap.{kept_is_owned}
use Rattle.forest.proofs.Copies.{copy}

module _ {X : Type 0} where
  kept_joined_each : {Y : Type 0} (t : X → Bool) (f : Y → List X) (ys : List Y)
      → filter t (flat_map f ys) ≡ flat_map (λ y. filter t (f y)) ys
  kept_joined_each t f [] = refl
  kept_joined_each t f (y ∷ ys) =
      filter-append t (f y) (flat_map f ys) ∙ ap (λ zs. filter t (f y) ++ zs) (kept_joined_each t f ys)

  -- a filter after a map, and after a filter
  length_kept_map : {Y : Type 0} (t : X → Bool) (f : Y → X) (ys : List Y)
      → length (filter t (map f ys)) ≡ length (filter (λ y. t (f y)) ys)
  length_kept_map t f [] = refl
  length_kept_map t f (y ∷ ys) = elim (cases_Bool (t (f y))) [
    | inl e ↦ rw e (ap suc (length_kept_map t f ys))
    | inr e ↦ rw e (length_kept_map t f ys)
  ]

  kept_kept : (t u : X → Bool) (xs : List X) → filter t (filter u xs) ≡ filter (λ x. u x && t x) xs
  kept_kept t u [] = refl
  kept_kept t u (x ∷ xs) = elim (cases_Bool (u x)) [
    | inr e ↦ rw e (kept_kept t u xs)
    | inl e ↦ elim (cases_Bool (t x)) [
      | inl k ↦ rw (e, k) (ap (λ ys. x ∷ ys) (kept_kept t u xs))
      | inr k ↦ rw (e, k) (kept_kept t u xs)
    ]
  ]

  kept_same : (t u : X → Bool) → ((x : X) → t x ≡ u x) → (xs : List X) → filter t xs ≡ filter u xs
  kept_same t u h xs = ap (λ r. filter r xs) (fun_ext h)

  -- those of key n, and those of a lower one
  kept_next : (t : X → Bool) (key : X → ℕ) (n : ℕ) (xs : List X)
      → length (filter (λ x. t x && ltb (key x) n) xs) + length (filter (λ x. t x && eqb (key x) n) xs)
      ≡ length (filter (λ x. t x && ltb (key x) (suc n)) xs)
  kept_next t key n [] = refl
  kept_next t key n (x ∷ xs) =
      let rest = kept_next t key n xs in
      elim (cases_Bool (t x)) [
        | inr e ↦ rw e rest
        | inl e ↦ elim (cases_order (key x) n) [
          | inl same ↦
              rw (e, le-ltb (key x) n (omega arith), eq-eqb (key x) n same, lt-ltb (key x) (suc n) (omega arith))
              (omega arith)
          | inr (inl l) ↦
              rw (e, lt-ltb (key x) n l, ne_eqb (key x) n (omega arith), lt-ltb (key x) (suc n) (omega arith))
              (omega arith)
          | inr (inr g) ↦
              rw (
                e,
                le-ltb (key x) n (omega arith),
                ne_eqb (key x) n (omega arith),
                le-ltb (key x) (suc n) (omega arith),
              )
              rest
        ]
      ]

  -- by their keys, added
  kept_by_keys : (t : X → Bool) (key : X → ℕ) (xs : List X) (n : ℕ)
      → sum_by (λ q. length (filter (λ x. t x && eqb (key x) q) xs)) (range_with_len 0 n)
      ≡ length (filter (λ x. t x && ltb (key x) n) xs)
  kept_by_keys t key xs zero = none xs
    where
      none : (xs : List X) → 0 ≡ length (filter (λ x. t x && ltb (key x) 0) xs)
      none [] = refl
      none (x ∷ xs) = elim (cases_Bool (t x)) [
        | inl e ↦ rw (e, le-ltb (key x) 0 (omega arith)) (none xs)
        | inr e ↦ rw e (none xs)
      ]
  kept_by_keys t key xs (suc n) =
      ap (sum_by (λ q. length (filter (λ x. t x && eqb (key x) q) xs))) (counting_next n)
      ∙ sum_by_push (λ q. length (filter (λ x. t x && eqb (key x) q) xs)) (range_with_len 0 n) n
      ∙ ap (λ k. k + length (filter (λ x. t x && eqb (key x) n) xs)) (kept_by_keys t key xs n)
      ∙ kept_next t key n xs

module _ (s : Scene) (ok : Sound s) where
  -- board p keeps a ghost of v
  abbrev ghost_on : ℕ → ℕ → Bool
  ghost_on p v = keeps s p v && not (eqb p (owner s v))

  ghost_by_owner : (p q v : ℕ) → (ghost_on p v && eqb (owner s v) q) ≡ ghost_of s p q v
  ghost_by_owner p q v = elim (cases_eq (owner s v) q) [
    | inl e ↦
        subst (λ q. (ghost_on p v && eqb (owner s v) q) ≡ ghost_of s p q v) e
        (at_owner (owner s v) (keeps s p v))
    | inr d ↦ rw (ne_eqb (owner s v) q d) (elsewhere (ghost_on p v) (not (eqb p q)) (keeps s p v))
  ]
    where
      at_owner : (o : ℕ) (k : Bool) → ((k && not (eqb p o)) && eqb o o) ≡ (not (eqb p o) && (k && eqb o o))
      at_owner o true = rw (eq-eqb o o refl)
      at_owner o false = sym (and_right (not (eqb p o)) false refl)

      elsewhere : (a b k : Bool) → (a && false) ≡ (b && (k && false))
      elsewhere a b k = and_right a false refl ∙ sym (and_right b (k && false) (and_right k false refl))

  owned : (p v : ℕ) → (ghost_on p v && ltb (owner s v) s.boards) ≡ ghost_on p v
  owned p v = elim (cases_Bool (keeps s p v)) [
    | inr n ↦ rw n
    | inl k ↦ rw (k, lt-ltb (owner s v) s.boards (kept_is_owned s ok p v k)) (and_true (not (eqb p (owner s v))))
  ]
    where
      and_true : (b : Bool) → (b && true) ≡ b
      and_true true = refl
      and_true false = refl

  ghosts_of_board : (p : ℕ) → length (filter (is_ghost s) (copies_of s p)) ≡ length (edges_of s p)
  ghosts_of_board p =
      length_kept_map (is_ghost s) (copy p) (filter (keeps s p) (range_with_len 0 s.vertices))
      ∙ ap length (kept_kept (λ v. not (eqb p (owner s v))) (keeps s p) (range_with_len 0 s.vertices))
      ∙ sym (ap length (kept_same _ (ghost_on p) (owned p) (range_with_len 0 s.vertices)))
      ∙ sym (kept_by_keys (ghost_on p) (owner s) (range_with_len 0 s.vertices) s.boards)
      ∙ ap (λ f. sum_by f (range_with_len 0 s.boards)) (fun_ext (λ q.
      ap length (kept_same _ (ghost_of s p q) (ghost_by_owner p q) (range_with_len 0 s.vertices))
      ∙ sym (length-map (filter (ghost_of s p q) (range_with_len 0 s.vertices)) (edge_to s p q))))
      ∙ sym (length_joined (edges_to s p) (range_with_len 0 s.boards))

  pub as_many_edges_as_ghosts : length (laid_edges s) ≡ length (filter (is_ghost s) (laid_copies s))
  as_many_edges_as_ghosts =
      length_joined (edges_of s) (range_with_len 0 s.boards)
      ∙ ap (λ f. sum_by f (range_with_len 0 s.boards)) (fun_ext (λ p. sym (ghosts_of_board p)))
      ∙ sym (length_joined (λ p. filter (is_ghost s) (copies_of s p)) (range_with_len 0 s.boards))
      ∙ ap length (sym (kept_joined_each (is_ghost s) (copies_of s) (range_with_len 0 s.boards)))
