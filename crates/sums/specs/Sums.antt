-- Own sums: what each copy holds when it is loaded, and the table that it is read from.
use Rattle.std.specs.Prelude.{◌≡◌, ℕ, ◌+◌, ◌*◌, ◌<◌, cond, List, ◌++◌, map, length, take, drop, Some, None, Ok, Err}
use Rattle.std.specs.Prelude.{Option, Result, ◌==◌, nat_eq, nat_le, slice_index_or, slice_set}
use Rattle.element.specs.Algebra.{Algebra}
use Rattle.element.specs.Join.{join_all}
use Rattle.element.specs.declared.words.Words.{Words}
use Rattle.scene.specs.Cells.{Cell, Scene}
use Rattle.scene.specs.Read.{no_words}
use Rattle.scene.specs.Sums.{contributions, own_sum}
use Rattle.plan.specs.declared.records.CopyRecord.{CopyRecord}
use Rattle.protocol.specs.declared.fault.RunFault.{RunFault}
use Rattle.protocol.specs.declared.fault.RunFault.TheVariants.{Kind, Short}

-- what each copy holds when it is loaded: its board's own sum at its vertex
abbrev pub loaded_copies : {M : Type 0} → Algebra M → Scene → List CopyRecord → List M
loaded_copies A s records = map (λ r. own_sum A s r.board r.vertex) records

-- why loading is refused: elements of another kind, then too little memory for the plan's copies
abbrev pub load_fault : {M : Type 0} → Algebra M → Scene → List CopyRecord → List M → Option RunFault
load_fault A s records memory =
    cond (s.kind == A.kind)
    (cond (nat_le (length records) (length memory)) None (Some (Short (length records))))
    (Some (Kind s.kind))

-- accepted, the plan's copies are set, and the memory past them stays; refused, all of it stays
abbrev pub SumsAnswers : {M : Type 0} → Algebra M → Scene → List CopyRecord → List M → List M
    → Result ℕ RunFault → Type 0
SumsAnswers A s records memory memory' (Ok n) =
    (load_fault A s records memory ≡ None)
    × (memory' ≡ loaded_copies A s records ++ drop (length records) memory)
    × (n ≡ length records)
SumsAnswers A s records memory memory' (Err f) = (load_fault A s records memory ≡ Some f) × (memory' ≡ memory)

-- ---- the table of all boards' own sums as words, by board and then vertex

abbrev pub table_size : ℕ
table_size = 8192

abbrev pub place_of : ℕ → ℕ → ℕ
place_of p v = 1024 * p + v

-- the sum of board p at v
abbrev pub sum_at : {M : Type 0} → Algebra M → List Words → ℕ → ℕ → M
sum_at A table p v = A.unpack (slice_index_or table (place_of p v) no_words)

-- the words joined into the sum of board p at v
abbrev pub joined_at : {M : Type 0} → Algebra M → ℕ → ℕ → Words → List Words → List Words
joined_at A p v w table = slice_set table (place_of p v) (A.pack (A.join (sum_at A table p v) (A.unpack w)))

-- a corner's contribution joined into the sum of its cell's board at its vertex
abbrev pub corner_joined : {M : Type 0} → Algebra M → Option ℕ → Option ℕ → Option Words → List Words → List Words
corner_joined A (Some p) (Some v) (Some w) table = joined_at A p v w table
corner_joined A (Some p) (Some v) None table = table
corner_joined A (Some p) None w table = table
corner_joined A None v w table = table

-- a cell's first k corners
abbrev pub first_corners : ℕ → Cell → Cell
first_corners k c = record { board = c.board; corners = take k c.corners; parts = take k c.parts }

-- what board p's cells of these contribute at v, joined
abbrev pub cells_sum : {M : Type 0} → Algebra M → List Cell → ℕ → ℕ → M
cells_sum A cells p v = join_all A (map A.unpack (contributions (λ c. nat_eq c.board p) v cells))

-- the table holds the sums of these cells
abbrev pub HoldsSums : {M : Type 0} → Algebra M → List Cell → List Words → Type 0
HoldsSums A cells table =
    (length table ≡ table_size) × ((p v : ℕ) → p < 8 → v < 1024 → sum_at A table p v ≡ cells_sum A cells p v)
