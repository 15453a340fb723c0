-- The promise over every run: what boards hold, what reports say, and how soon all are settled.
use Rattle.std.specs.Prelude.{◌≡◌, ℕ, ◌+◌, ◌*◌, ◌<◌, ◌≤◌, ◌⊎◌, List, [], ◌∷◌, ◌++◌, length, get_or, slice_index_or}
use Rattle.std.specs.List.{AllByRecursion}
use Rattle.element.specs.Algebra.{Algebra}
use Rattle.scene.specs.Cells.{Scene, Sound}
use Rattle.scene.specs.Sums.{own_sum, undivided}
use Rattle.plan.specs.Links.{no_copy, no_edge}
use Rattle.forest.specs.Forest.{laid_copies, laid_edges}
use Rattle.protocol.specs.declared.tally.Report.TheVariants.{Settled, Awaits}
use Rattle.protocol.specs.Books.{Book, lacks, HasAll, report_by}
use Rattle.protocol.specs.Runs.{Moment, accepted_in, laid, Run}

-- x is among the elements
abbrev pub In : ℕ → List ℕ → Type 0
In x [] = ⊥
In x (y ∷ ys) = (y ≡ x) ⊎ In x ys

-- a full circle: each board turns in it at least once
abbrev pub Full : ℕ → List ℕ → Type 0
Full boards circle = (p : ℕ) → p < boards → In p circle

-- stretches of turns, one after the other
abbrev pub flat : List (List ℕ) → List ℕ
flat [] = []
flat (c ∷ cs) = c ++ flat cs

module _ {M : Type 0} (A : Algebra M) (s : Scene) where
  abbrev pub copy_board : ℕ → ℕ
  copy_board c = (get_or (laid_copies s) c no_copy).board

  abbrev pub copy_vertex : ℕ → ℕ
  copy_vertex c = (get_or (laid_copies s) c no_copy).vertex

  -- the copy with number c holds its board's own sum; it holds the undivided total
  abbrev pub HoldsOwn : Moment M → ℕ → Type 0
  HoldsOwn m c = slice_index_or m.copies c A.zero ≡ own_sum A s (copy_board c) (copy_vertex c)

  abbrev pub HoldsTotal : Moment M → ℕ → Type 0
  HoldsTotal m c = slice_index_or m.copies c A.zero ≡ undivided A s (copy_vertex c)

  pub record Promise (ts : List ℕ) (m : Moment M) (book : Book) (losses : ℕ) : Type 0 where
    -- a board that has all its items by the book holds the undivided total at each of its copies
    pub settled_boards_hold_the_total : (p : ℕ) → p < s.boards → HasAll (laid A s) book p
        → (c : ℕ) → c < length (laid_copies s) → copy_board c ≡ p → HoldsTotal m c
    -- a report, made from the table, says what the book says
    pub reports_follow_the_book : (p : ℕ) → p < s.boards
        → report_by (laid A s) (accepted_in m.links) p ≡ report_by (laid A s) book p
    -- and it says settled exactly if the board has all its items by the book
    pub reported_settled_is_settled : (p : ℕ) → p < s.boards
        → report_by (laid A s) book p ≡ Settled → HasAll (laid A s) book p
    pub settled_is_reported_settled : (p : ℕ) → p < s.boards
        → HasAll (laid A s) book p → report_by (laid A s) book p ≡ Settled
    -- or else it names the lowest board whose items are lacking by the book, and how many
    pub reports_name_the_lowest_lacking : (p q k : ℕ) → p < s.boards → report_by (laid A s) book p ≡ Awaits q k
        → (q < s.boards) × (k ≡ lacks (laid A s) book p q) × (0 < k)
        × ((r : ℕ) → r < q → lacks (laid A s) book p r ≡ 0)
    -- a ghost holds its board's own sum or the undivided total, nothing in between
    pub ghosts_hold_own_sum_or_total : (e : ℕ) → e < length (laid_edges s)
        → HoldsOwn m (get_or (laid_edges s) e no_edge).leaf ⊎ HoldsTotal m (get_or (laid_edges s) e no_edge).leaf
    -- once the turns can be cut into 8 full circles an edge and 4 more for each loss, every board is settled
    pub enough_circles_settle_all_boards : (circles : List (List ℕ)) (rest : List ℕ) → ts ≡ flat circles ++ rest
        → AllByRecursion (Full s.boards) circles → 8 * length (laid_edges s) + 4 * losses ≤ length circles
        → (p : ℕ) → p < s.boards → HasAll (laid A s) book p
    -- the tally counts the turns, and the puts that left no frame
    pub tally_counts_turns : m.tally.turns ≡ length ts
    pub tally_counts_losses : m.tally.lost ≡ losses

-- for every lawful type of elements, every accepted scene under its laid plan, and every moment of every run
abbrev pub EveryRunKeepsThePromise : (M : Type 0) → Algebra M → Type 0
EveryRunKeepsThePromise M A = (s : Scene) → Sound s
    → (ts : List ℕ) (m : Moment M) (book : Book) (losses : ℕ)
    → Run A s ts m book losses → Promise A s ts m book losses
