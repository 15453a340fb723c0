-- Right tables say the scene's copies and edges.
use Rattle.std.proofs.Common.{◌≡◌, ℕ, ◌<◌, ◌≤◌, Bool, not, ◌&&◌, eqb, List, map, length, get_or, None}
use Rattle.std.proofs.Common.{Option, take, sym, ap, ◌∙◌, arith}
use mathlib.Core.Bool.{and_assoc}
use Rattle.std.specs.List.{flat_map}
use Rattle.std.proofs.lemmas.List.{get_or-take, length-take}
use Rattle.std.proofs.lemmas.List.Folds.{flat_map-map}
use Rattle.scene.specs.Cells.{Scene, Sound}
use Rattle.forest.specs.Forest.{owns_cell_on, keeps, owner, laid_copies, copies_of, copies_up_to, number, ghost_of}
use Rattle.forest.specs.Forest.{edge_to, edges_to, edges_of}
use Rattle.laying.specs.declared.root.Root.{Root}
use Rattle.laying.specs.declared.board_set.BoardSet.{BoardSet}
use Rattle.laying.specs.BoardSets.{has, board_set_at, TellsAll}
use Rattle.laying.specs.Right.{Right}
use Rattle.laying.specs.Rows.{Tells, Tabulates, flag_at, passes, only}
use Rattle.laying.specs.Tables.{owning, row, copy_record, copy_if_kept, board_copies, copies_in, number_in}
use Rattle.laying.specs.Tables.{root_copy, root_at, row_roots, roots_in, ghost_in, edge_record, edge_if_ghost}
use Rattle.laying.specs.Tables.{board_edges}
use Rattle.laying.proofs.Counts.{joined_lists_below, lists_below_same, picked, counted, many_same}
use Rattle.laying.proofs.Joined.{joined_all, joined_only}
use Rattle.laying.proofs.Sizes.{rows_taken}
use Rattle.laying.proofs.Lowest.{lowest_is}

-- the owners of a scene's vertices, and its roots, from longer tables
module _ (s : Scene) (ok : Sound s) (owners : List (Option ℕ)) (n : ℕ) (vertices : n ≡ s.vertices) where
  pub owners_are : ((v : ℕ) → v < 1024 → get_or owners v None ≡ owning s v)
      → (v : ℕ) → v < s.vertices → get_or (take n owners) v None ≡ owning s v
  owners_are own v l = get_or-take n owners v None (omega arith) ∙ own v (omega (arith, ok.few_vertices))

  pub roots_are : (b : ℕ) (roots : List Root) → b ≡ s.boards → length owners ≡ 1024
      → map root_copy roots ≡ roots_in (take n owners) (length (take n owners)) b
      → map root_copy roots ≡ roots_in (take n owners) s.vertices s.boards
  roots_are b roots boards long all =
      let size : length (take n owners) ≡ s.vertices = omega (arith, length-take n owners, ok.few_vertices) in
      all ∙ ap (λ m. roots_in (take n owners) m b) size ∙ ap (roots_in (take n owners) s.vertices) boards

-- the rows of a scene's boards, of sets that tell who keeps a copy
pub rows_are : (s : Scene) → Sound s → (table : List (List Bool)) (sets : List BoardSet)
    → ((p : ℕ) → p < 8 → Tells (row table p) 1024 (λ v. has (board_set_at sets v) p))
    → TellsAll sets 1024 (keeps s)
    → (p : ℕ) → p < s.boards → Tells (row table p) 1024 (keeps s p)
rows_are s ok table sets flagged kept p h v l = flagged p (omega (arith, ok.few_boards)) v l ∙ kept p v l

module _ (s : Scene) (ok : Sound s) (table : List (List Bool))
    (rows : (p : ℕ) → p < s.boards → Tells (row table p) 1024 (keeps s p)) where
  kept_is : (p v : ℕ) → p < s.boards → v < s.vertices → flag_at (row table p) v ≡ keeps s p v
  kept_is p v h l = rows p h v (omega (arith, ok.few_vertices))

  copies_is : (p : ℕ) → p < s.boards → board_copies table s.vertices p ≡ copies_of s p
  copies_is p h =
      lists_below_same
      (copy_if_kept (row table p) p)
      (λ v. only (keeps s p v) (copy_record p v))
      s.vertices
      (λ v l. ap (λ b. only b (copy_record p v)) (kept_is p v h l))
      ∙ sym (picked (copy_record p) (keeps s p) s.vertices)

  before_is : (p : ℕ) → p ≤ s.boards → copies_in table s.vertices p ≡ copies_up_to s p
  before_is p h =
      lists_below_same (board_copies table s.vertices) (copies_of s) p (λ k l. copies_is k (omega arith))
      ∙ sym (joined_lists_below (copies_of s) p)

  -- as many copies as are numbered
  pub copies_counted : (b n m : ℕ) → b ≡ s.boards → n ≡ s.vertices → length (take b table) ≡ b
      → m ≡ length (copies_in (take b table) n (length (take b table)))
      → m ≡ length (laid_copies s)
  copies_counted b n m boards vertices size is =
      is
      ∙ ap (λ k. length (copies_in (take b table) n k)) size
      ∙ ap length (rows_taken table b n)
      ∙ ap (λ k. length (copies_in table k b)) vertices
      ∙ ap (λ k. length (copies_in table s.vertices k)) boards
      ∙ ap length (before_is s.boards (omega arith))

  module _ (numbers : List (List ℕ)) (owners : List (Option ℕ)) (roots : List Root)
      (numbered : (p : ℕ) → p < s.boards → Tabulates (row numbers p) s.vertices (number_in table s.vertices p))
      (owned : (v : ℕ) → v < s.vertices → get_or owners v None ≡ owning s v)
      (all : map root_copy roots ≡ roots_in owners s.vertices s.boards) where
    number_is : (p v : ℕ) → p < s.boards → v < s.vertices → get_or (row numbers p) v 0 ≡ number s p v
    number_is p v h l =
        let same = many_same (flag_at (row table p)) (keeps s p) v (λ k m. kept_is p k h (omega arith)) in
        let below : p ≤ s.boards = omega arith in
        omega (arith, numbered p h v l, ap length (before_is p below), counted (keeps s p) v, same)

    owned_by : (q v : ℕ) → q < s.boards → v < s.vertices
        → eqb (owner s v) q ≡ passes (λ o. eqb o q) (get_or owners v None)
    owned_by q v h l =
        lowest_is (λ p. owns_cell_on s p v) s.boards q h ∙ ap (passes (λ o. eqb o q)) (sym (owned v l))

    ghost_is : (p q v : ℕ) → p < s.boards → q < s.boards → v < s.vertices
        → (ghost_in (row table p) p (copy_record q v) && passes (λ o. eqb o q) (get_or owners v None))
        ≡ ghost_of s p q v
    ghost_is p q v h j l =
        let mine = passes (λ o. eqb o q) (get_or owners v None) in
        and_assoc (not (eqb p q)) (flag_at (row table p) v) mine
        ∙ ap (λ b. not (eqb p q) && (b && mine)) (kept_is p v h l)
        ∙ ap (λ b. not (eqb p q) && (keeps s p v && b)) (sym (owned_by q v j l))

    -- the edge from board p to board q's root of v
    edge_is : (p q v : ℕ) → p < s.boards → q < s.boards → v < s.vertices
        → flat_map (edge_if_ghost table numbers p) (root_at owners q v) ≡ only (ghost_of s p q v) (edge_to s p q v)
    edge_is p q v h j l =
        let c = copy_record q v in
        let leaf = number_is p v h l in
        let root = number_is q v j l in
        let same : edge_record numbers p c ≡ edge_to s p q v = cc in
        joined_only
        (ghost_in (row table p) p)
        (edge_record numbers p)
        (passes (λ o. eqb o q) (get_or owners v None))
        c
        ∙ ap (λ b. only b (edge_record numbers p c)) (ghost_is p q v h j l)
        ∙ ap (only (ghost_of s p q v)) same

    -- the edges from board p to the roots of board q
    link_is : (p q : ℕ) → p < s.boards → q < s.boards
        → flat_map (edge_if_ghost table numbers p) (row_roots owners s.vertices q) ≡ edges_to s p q
    link_is p q h j =
        let n = s.vertices in
        let f = edge_if_ghost table numbers p in
        joined_all f (root_at owners q) n
        ∙ lists_below_same
        (λ v. flat_map f (root_at owners q v))
        (λ v. only (ghost_of s p q v) (edge_to s p q v))
        n
        (λ v l. edge_is p q v h j l)
        ∙ sym (picked (edge_to s p q) (ghost_of s p q) n)

    -- the edges from board p, in one pass over all roots
    edges_is : (p : ℕ) → p < s.boards → board_edges table numbers roots p ≡ edges_of s p
    edges_is p h =
        let f = edge_if_ghost table numbers p in
        let by_board = row_roots owners s.vertices in
        sym (flat_map-map f root_copy roots)
        ∙ ap (flat_map f) all
        ∙ joined_all f by_board s.boards
        ∙ lists_below_same (λ q. flat_map f (by_board q)) (edges_to s p) s.boards (λ q j. link_is p q h j)
        ∙ sym (joined_lists_below (edges_to s p) s.boards)

    -- the tables say the scene's copies and edges
    pub tables_right : Right s table numbers roots
    tables_right =
        record {
          copies = before_is s.boards (omega arith);
          edges =
              lists_below_same (board_edges table numbers roots) (edges_of s) s.boards (λ p h. edges_is p h)
              ∙ sym (joined_lists_below (edges_of s) s.boards);
        }
