-- The table of own sums, as contributions are joined into it, and the copies that are set from it.
use Rattle.std.proofs.Common.{◌≡◌, ℕ, zero, suc, ◌+◌, ◌<◌, ◌≤◌, eqb, List, [], ◌∷◌, ◌++◌, map, length, get_or}
use Rattle.std.proofs.Common.{Bor, take, drop, set, replicate, Some, None, Option, sym, refl, ap, ◌∙◌, subst, ap₂, inl}
use Rattle.std.proofs.Common.{inr, arith}
use Rattle.std.specs.List.{slice_get, AllByRecursion}
use Rattle.std.proofs.ByRecursion.{All-get_or}
use Rattle.std.proofs.lemmas.List.{append_assoc, map-append, map_more, take_all, take_more, drop_more, set_at}
use Rattle.std.proofs.lemmas.List.{length-set, length-take-le, length-map, length-replicate, get_or-set_same}
use Rattle.std.proofs.lemmas.List.{get_or-set_other, get_or-replicate}
use Rattle.std.proofs.lemmas.Bool.{cases_eq}
use Rattle.element.specs.Algebra.{Algebra, Lawful}
use Rattle.element.specs.Join.{join_all}
use Rattle.element.specs.declared.words.Words.{Words}
use Rattle.element.proofs.Joins.{join_all_push}
use Rattle.scene.specs.Cells.{Cell, Scene, Sound}
use Rattle.scene.specs.Read.{within, board_of, corner_of, part_of, no_cell, no_words}
use Rattle.scene.specs.Sums.{contributions}
use Rattle.scene.proofs.Ranges.{boards_low, corners_low}
use Rattle.scene.proofs.Reading.{board_some, corner_some, part_some}
use Rattle.plan.specs.declared.records.CopyRecord.{CopyRecord}
use Rattle.plan.specs.declared.view.PlanView.{PlanView}
use Rattle.plan.specs.Links.{no_copy}
use Rattle.plan.proofs.Plans.{boards_within, copies_below}
use Rattle.sums.specs.Sums.{load_fault, place_of, sum_at, joined_at, corner_joined, first_corners}
use Rattle.sums.specs.Sums.{table_size, HoldsSums}
use Rattle.sums.proofs.Contributions.{no_corners, corner_here, corner_else, all_corners}

-- ---- what the scene's readers answer lies in the table

-- P holds of what is there
abbrev pub Of : {X : Type 0} → (X → Type 0) → Option X → Type 0
Of P None = Unit {0}
Of P (Some x) = P x

of_nth : {X : Type 0} (P : X → Type 0) (xs : List X) (i : ℕ) → AllByRecursion P xs → Of P (slice_get xs i)
of_nth P [] i h = tt
of_nth P (x ∷ xs) zero h = h.0
of_nth P (x ∷ xs) (suc i) h = of_nth P xs i h.1

of_within : {X : Type 0} (P : Cell → Type 0) (Q : X → Type 0) (f : Cell → Option X) → ((c : Cell) → P c → Of Q (f c))
    → (o : Option Cell) → Of P o → Of Q (within f o)
of_within P Q f h None p = tt
of_within P Q f h (Some c) p = h c p

module _ (s : Scene) (sound : Sound s) where
  pub board_low : (c p : ℕ) → Some p ≡ board_of s c → p < 8
  board_low c p e =
      subst (Of (λ x. x < 8)) (sym e)
      (of_within (λ x. x.board < 8) (λ x. x < 8) (λ x. Some x.board) (λ x h. h) (slice_get s.cells c)
      (of_nth (λ x. x.board < 8) s.cells c (boards_low s sound)))

  pub corner_low : (c k v : ℕ) → Some v ≡ corner_of s c k → v < 1024
  corner_low c k v e =
      subst (Of (λ x. x < 1024)) (sym e)
      (of_within (λ x. AllByRecursion (λ y. y < 1024) x.corners) (λ x. x < 1024) (λ x. slice_get x.corners k)
      (λ x h. of_nth (λ y. y < 1024) x.corners k h) (slice_get s.cells c)
      (of_nth (λ x. AllByRecursion (λ y. y < 1024) x.corners) s.cells c (corners_low s sound)))

-- ---- joining into the table

module _ {M : Type 0} (A : Algebra M) (L : Lawful A) where
  -- the join over contributions, with one more or none
  sum_more : (ws : List Words) (w : Words) → join_all A (map A.unpack (ws ++ (w ∷ [])))
      ≡ A.join (join_all A (map A.unpack ws)) (A.unpack w)
  sum_more ws w =
      ap (join_all A) (map-append A.unpack ws (w ∷ [])) ∙ join_all_push A L (map A.unpack ws) (A.unpack w)

  pub none_held : HoldsSums A [] (replicate table_size (A.pack A.zero))
  none_held = (
    length-replicate table_size (A.pack A.zero),
    λ p v a b.
        ap A.unpack (get_or-replicate table_size (place_of p v) (A.pack A.zero) no_words (omega arith))
        ∙ L.unpack_pack A.zero,
  )

  module _ (cs : List Cell) (c : Cell) where
    pub cell_begun : (table : List Words) → HoldsSums A cs table
        → HoldsSums A (cs ++ (first_corners 0 c ∷ [])) table
    cell_begun table h = (
      h.0,
      λ p v a b. h.1 p v a b
          ∙ ap (λ ws. join_all A (map A.unpack ws)) (sym (no_corners (λ d. eqb d.board p) v cs c)),
    )

    module _ (as_many : length c.parts ≡ length c.corners) where
      pub cell_ended : (k : ℕ) (table : List Words) → length c.corners ≡ k
          → HoldsSums A (cs ++ (first_corners k c ∷ [])) table → HoldsSums A (cs ++ (c ∷ [])) table
      cell_ended k table e h =
          subst (λ d. HoldsSums A (cs ++ (d ∷ [])) table)
          (ap (λ n. first_corners n c) (sym e) ∙ all_corners c as_many) h

      -- a corner's contribution is joined in at its place, and all other sums stay
      pub corner_held : (k : ℕ) (table : List Words) → k < length c.corners → c.board < 8
          → get_or c.corners k 0 < 1024
          → HoldsSums A (cs ++ (first_corners k c ∷ [])) table
          → HoldsSums A (cs ++ (first_corners (k + 1) c ∷ []))
          (joined_at A c.board (get_or c.corners k 0) (get_or c.parts k no_words) table)
      corner_held k table l low_board low_corner h =
          let q = c.board in
          let u = get_or c.corners k 0 in
          let w = get_or c.parts k no_words in
          let x = A.join (sum_at A table q u) (A.unpack w) in
          let sum_of : List Words → M = λ ws. join_all A (map A.unpack ws) in
          let so_far : ℕ → ℕ → List Words
          = λ p v. contributions (λ d. eqb d.board p) v (cs ++ (first_corners k c ∷ [])) in (
            length-set table (place_of q u) (A.pack x) ∙ h.0,
            λ p v a b.
                elim (cases_eq (place_of q u) (place_of p v)) [
                  | inl e ↦
                      let same_board : q ≡ p = omega arith in
                      let same_vertex : u ≡ v = omega arith in
                      ap (λ n. A.unpack (get_or (set table (place_of q u) (A.pack x)) n no_words)) (sym e)
                      ∙ ap A.unpack (get_or-set_same table (place_of q u) (A.pack x) no_words (omega (arith, h.0)))
                      ∙ L.unpack_pack x
                      ∙ ap (λ y. A.join y (A.unpack w))
                      (ap (λ n. A.unpack (get_or table n no_words)) e ∙ h.1 p v a b)
                      ∙ sym (sum_more (so_far p v) w)
                      ∙ ap sum_of (sym (corner_here p v cs c k l as_many same_board same_vertex))
                  | inr d ↦
                      ap A.unpack
                      (get_or-set_other table (place_of q u) (place_of p v) (A.pack x) no_words (λ e. d (sym e)))
                      ∙ h.1 p v a b
                      ∙ ap sum_of (sym (corner_else p v cs c k l as_many (λ e f. d (ap₂ place_of e f))))
                ],
          )

  -- ---- the same, of a scene's cells as its readers answer them
  module _ (s : Scene) (sound : Sound s) (c : ℕ) (there : c < length s.cells) where
    abbrev cell : Cell
    cell = get_or s.cells c no_cell

    as_many_parts : length cell.parts ≡ length cell.corners
    as_many_parts = All-get_or _ s.cells c no_cell there sound.as_many_parts

    corner_joins : (k : ℕ) (table : List Words) → k < length cell.corners
        → corner_joined A (board_of s c) (corner_of s c k) (part_of s c k) table
        ≡ joined_at A cell.board (get_or cell.corners k 0) (get_or cell.parts k no_words) table
    corner_joins k table l =
        ap (λ o. corner_joined A o (corner_of s c k) (part_of s c k) table) (board_some s c there)
        ∙ ap (λ o. corner_joined A (Some cell.board) o (part_of s c k) table) (corner_some s c there k l)
        ∙ ap (λ o. corner_joined A (Some cell.board) (Some (get_or cell.corners k 0)) o table)
        (part_some s c there k (omega (arith, as_many_parts)))

    -- one corner more
    pub corner_step : (k : ℕ) (table table' : List Words) → k < length cell.corners
        → table' ≡ corner_joined A (board_of s c) (corner_of s c k) (part_of s c k) table
        → HoldsSums A (take c s.cells ++ (first_corners k cell ∷ [])) table
        → HoldsSums A (take c s.cells ++ (first_corners (k + 1) cell ∷ [])) table'
    corner_step k table table' l e h =
        subst (HoldsSums A (take c s.cells ++ (first_corners (k + 1) cell ∷ [])))
        (sym (e ∙ corner_joins k table l))
        (corner_held (take c s.cells) cell as_many_parts k table l
        (All-get_or _ s.cells c no_cell there (boards_low s sound))
        (All-get_or _ cell.corners k 0 l (All-get_or _ s.cells c no_cell there (corners_low s sound))) h)

    -- all corners are joined in
    pub cell_step : (k : ℕ) (table : List Words) → length cell.corners ≡ k
        → HoldsSums A (take c s.cells ++ (first_corners k cell ∷ [])) table
        → HoldsSums A (take (c + 1) s.cells) table
    cell_step k table e h =
        subst (λ cs. HoldsSums A cs table) (sym (take_more s.cells c no_cell there))
        (cell_ended (take c s.cells) cell as_many_parts k table e h)

-- ---- setting the copies

-- where nothing is against loading there is room
pub load_has_room : {M : Type 0} (A : Algebra M) (s : Scene) (records : List CopyRecord) (memory : List M)
    → load_fault A s records memory ≡ None → length records ≤ length memory
load_has_room A s records memory allowed = grind arith

-- one element more is written over
pub over_more : {X Y : Type 0} (f : X → Y) (xs : List X) (ys : List Y) (n : ℕ) (d : X) → n < length xs
    → length xs ≤ length ys
    → set (map f (take n xs) ++ drop n ys) n (f (get_or xs n d)) ≡ map f (take (n + 1) xs) ++ drop (n + 1) ys
over_more f xs ys n d l m =
    let x = f (get_or xs n d) in
    let long = length-map (take n xs) f ∙ length-take-le n xs (omega arith) in
    ap (λ z. set (map f (take n xs) ++ z) n x) (drop_more ys n x (omega arith))
    ∙ set_at (map f (take n xs)) (get_or ys n x) (drop (n + 1) ys) x n long
    ∙ sym (append_assoc (map f (take n xs)) (x ∷ []) (drop (n + 1) ys))
    ∙ ap (λ z. z ++ drop (n + 1) ys) (sym (map_more f xs n d l))

-- all elements are written over
pub over_all : {X Y : Type 0} (f : X → Y) (xs : List X) (ys : List Y) (n : ℕ) → n ≡ length xs
    → map f (take n xs) ++ drop n ys ≡ map f xs ++ drop (length xs) ys
over_all f xs ys n e = rw (e, take_all (length xs) xs (omega arith)) refl

-- a plan's copies lie in the table
pub copy_low : (plan : PlanView) (records : Bor (List CopyRecord)) → records ≡ plan.copies → (n : ℕ)
    → n < length records.now
    → ((get_or records.now n no_copy).board < 8) × ((get_or records.now n no_copy).vertex < 1024)
copy_low plan records e n there =
    let below = All-get_or _ records.now n no_copy there
    (subst (λ (rs : Bor (List CopyRecord)). AllByRecursion (λ r. (r.board < plan.boards) × (r.vertex < 1024)) rs.now)
    (sym e) (copies_below plan.boards plan.copies.now plan.edges.now plan.sound)) in
    let few = boards_within plan.boards plan.copies.now plan.edges.now plan.sound in
    (omega (arith, below.0, few.1), below.1)
