-- The laid copies: each stands at its number, and they rise by board, then vertex.
use Rattle.std.proofs.Common.{◌≡◌, ℕ, ◌+◌, ◌<◌, true, ◌⊎◌, List, ◌∷◌, ◌++◌, map, length, get_or, filter, sym}
use Rattle.std.proofs.Common.{refl, ap, ◌∙◌, inl, inr, arith}
use Rattle.std.specs.List.{range_with_len, AllByRecursion}
use Rattle.std.proofs.lemmas.List.{append_assoc, map-append, length-append, length-map, get_or_at}
use Rattle.std.proofs.ByRecursion.{All-weaker, All-get_or, All-map}
use Rattle.plan.specs.declared.records.CopyRecord.{CopyRecord}
use Rattle.plan.specs.Links.{no_copy}
use Rattle.scene.specs.Cells.{Scene}
use Rattle.forest.specs.Forest.{keeps, copies_of, copies_up_to, laid_copies, number}
use Rattle.forest.proofs.Filters.{kept_within, kept_cut, joined_cut, all_joined}
use Rattle.forest.proofs.Members.{all_given}
use Rattle.forest.proofs.Ordered.{Ordered, ordered_kept, ordered_map, ordered_joined, ordered_once, ordered_counting}

abbrev pub copy : ℕ → ℕ → CopyRecord
copy p v = record { board = p; vertex = v }

-- by board, then vertex
abbrev pub Before : CopyRecord → CopyRecord → Type 0
Before x y = (x.board < y.board) ⊎ ((x.board ≡ y.board) × (x.vertex < y.vertex))

pub not_before_itself : (x : CopyRecord) → Before x x → ⊥
not_before_itself x h = elim h [ inl l ↦ omega arith | inr l ↦ omega (arith, l.1) ]

module _ (s : Scene) where
  -- the copies that stand before board p's copy of v
  abbrev pub copies_ahead : ℕ → ℕ → List CopyRecord
  copies_ahead p v = copies_up_to s p ++ map (copy p) (filter (keeps s p) (range_with_len 0 v))

  pub length_copies_ahead : (p v : ℕ) → length (copies_ahead p v) ≡ number s p v
  length_copies_ahead p v =
      length-append (copies_up_to s p) _
      ∙ ap (λ n. length (copies_up_to s p) + n) (length-map (filter (keeps s p) (range_with_len 0 v)) (copy p))

  -- where it stands
  pub copy_stands : (p v : ℕ) → p < s.boards → v < s.vertices → keeps s p v ≡ true
      → (rest : List CopyRecord) × (laid_copies s ≡ copies_ahead p v ++ (copy p v ∷ rest))
  copy_stands p v pb vb h =
      let (others, e) = joined_cut (copies_of s) p s.boards pb in
      let (later, k) = kept_cut (keeps s p) v s.vertices vb h in (
        map (copy p) later ++ others,
        e
            ∙ ap (λ xs. copies_up_to s p ++ (xs ++ others))
            (ap (map (copy p)) k ∙ map-append (copy p) (filter (keeps s p) (range_with_len 0 v)) (v ∷ later))
            ∙ ap (λ xs. copies_up_to s p ++ xs)
            (append_assoc (map (copy p) (filter (keeps s p) (range_with_len 0 v)))
            (copy p v ∷ map (copy p) later) others)
            ∙ sym (append_assoc (copies_up_to s p) (map (copy p) (filter (keeps s p) (range_with_len 0 v)))
            (copy p v ∷ (map (copy p) later ++ others))),
      )

  -- the number of a copy is its place
  pub copy_at_number : (p v : ℕ) → p < s.boards → v < s.vertices → keeps s p v ≡ true
      → get_or (laid_copies s) (number s p v) no_copy ≡ copy p v
  copy_at_number p v pb vb h =
      let (rest, e) = copy_stands p v pb vb h in
      ap (λ xs. get_or xs (number s p v) no_copy) e
      ∙ get_or_at (copies_ahead p v) (copy p v) rest no_copy (number s p v) (length_copies_ahead p v)

  pub number_below : (p v : ℕ) → p < s.boards → v < s.vertices → keeps s p v ≡ true
      → number s p v < length (laid_copies s)
  number_below p v pb vb h =
      let (rest, e) = copy_stands p v pb vb h in
      let n = length_copies_ahead p v in
      let m = length-append (copies_ahead p v) (copy p v ∷ rest) in
      let k : length (laid_copies s) ≡ length (copies_ahead p v ++ (copy p v ∷ rest)) = ap length e in
      omega arith

  -- all copies are kept, of boards and vertices of the scene
  pub copies_kept : AllByRecursion (λ r. (r.board < s.boards) × (r.vertex < s.vertices)
      × (keeps s r.board r.vertex ≡ true)) (laid_copies s)
  copies_kept = all_joined _ (copies_of s) 0 s.boards (λ p l g. All-map _ (copy p) _
      (All-weaker _ _ (λ v h. (omega arith, omega arith, h.0)) _ (kept_within (keeps s p) 0 s.vertices)))

  pub copies_of_board : (p : ℕ) → AllByRecursion (λ r. r.board ≡ p) (copies_of s p)
  copies_of_board p = All-map _ (copy p) _ (all_given _ (λ v. refl) (filter (keeps s p) (range_with_len 0 s.vertices)))

  -- they rise by board, then vertex
  pub copies_rise : Ordered Before (laid_copies s)
  copies_rise =
      ordered_joined Before (λ p r. r.board ≡ p) (λ p q x y l a b. inl (omega arith)) (copies_of s) copies_of_board
      (λ p. ordered_map Before (λ v w. v < w) (copy p) (λ v w l. inr (refl, l)) _
      (ordered_kept (λ v w. v < w) (keeps s p) _ (ordered_counting 0 s.vertices)))
      0 s.boards

  module _ (c : ℕ) (l : c < length (laid_copies s)) where
    pub copy_board_below : (get_or (laid_copies s) c no_copy).board < s.boards
    copy_board_below = (All-get_or _ (laid_copies s) c no_copy l copies_kept).0

    pub copy_vertex_below : (get_or (laid_copies s) c no_copy).vertex < s.vertices
    copy_vertex_below = (All-get_or _ (laid_copies s) c no_copy l copies_kept).1

    pub copy_kept : keeps s (get_or (laid_copies s) c no_copy).board (get_or (laid_copies s) c no_copy).vertex ≡ true
    copy_kept = (All-get_or _ (laid_copies s) c no_copy l copies_kept).2

    -- every place is the number of its copy
    pub numbered : number s (get_or (laid_copies s) c no_copy).board (get_or (laid_copies s) c no_copy).vertex ≡ c
    numbered =
        let p : ℕ = (get_or (laid_copies s) c no_copy).board in
        let v : ℕ = (get_or (laid_copies s) c no_copy).vertex in
        ordered_once Before not_before_itself (laid_copies s) no_copy copies_rise (number s p v) c
        (number_below p v copy_board_below copy_vertex_below copy_kept) l
        (copy_at_number p v copy_board_below copy_vertex_below copy_kept)

  -- no two copies have one number
  pub number_once : (p q v w : ℕ) → p < s.boards → v < s.vertices → keeps s p v ≡ true
      → q < s.boards → w < s.vertices → keeps s q w ≡ true → number s p v ≡ number s q w → (p ≡ q) × (v ≡ w)
  number_once p q v w pb vb h qb wb k e =
      let same : copy p v ≡ copy q w =
      sym (copy_at_number p v pb vb h) ∙ ap (λ c. get_or (laid_copies s) c no_copy) e ∙ copy_at_number q w qb wb k in
      (ap (λ r. r.board) same, ap (λ r. r.vertex) same)
