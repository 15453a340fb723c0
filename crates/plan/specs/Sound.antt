-- The rules of a plan: which board counts, copies and edges make one.
use Rattle.std.specs.Prelude.{ℕ, ◌-◌, Bool, true, not, ◌&&◌, ◌||◌, List, [], ◌∷◌, length, get_or, ◌==◌, nat_le}
use Rattle.std.specs.Prelude.{nat_lt, slice_index_or}
use Rattle.plan.specs.declared.records.CopyRecord.{CopyRecord}
use Rattle.plan.specs.declared.records.Edge.{Edge}
use Rattle.plan.specs.Links.{no_copy}

-- every record passes
abbrev pub each : {X : Type 0} → (X → Bool) → List X → Bool
each t [] = true
each t (x ∷ xs) = t x && each t xs

-- the first record passes, if there is one
abbrev pub first_passes : {X : Type 0} → (X → Bool) → List X → Bool
first_passes t [] = true
first_passes t (x ∷ xs) = t x

-- each record stands before the next
abbrev pub rising : {X : Type 0} → (X → X → Bool) → List X → Bool
rising before [] = true
rising before (x ∷ xs) = first_passes (before x) xs && rising before xs

-- record number i stands after the one before it, or is the first
abbrev pub in_place : {X : Type 0} → (X → X → Bool) → X → List X → ℕ → X → Bool
in_place before none xs i x = i == 0 || before (slice_index_or xs (i - 1) none) x

-- record number i fits, and stands in its place
abbrev pub keeps_rules : {X : Type 0} → (X → Bool) → (X → X → Bool) → X → List X → ℕ → Bool
keeps_rules fits before none xs i =
    fits (slice_index_or xs i none) && in_place before none xs i (slice_index_or xs i none)

-- copies stand by board, then vertex
abbrev pub copy_before : CopyRecord → CopyRecord → Bool
copy_before c d = nat_lt c.board d.board || (c.board == d.board && nat_lt c.vertex d.vertex)

-- edges stand by leaf board, then root board, then vertex
abbrev pub edge_before : Edge → Edge → Bool
edge_before e f =
    nat_lt e.from f.from ||
    (e.from == f.from && (nat_lt e.to f.to || (e.to == f.to && nat_lt e.vertex f.vertex)))

-- boards are below the board count, vertices below 1,024
abbrev pub copy_fits : ℕ → CopyRecord → Bool
copy_fits boards c = nat_lt c.board boards && nat_lt c.vertex 1024

-- there is a copy number k, and it is board p's copy of v
abbrev pub is_copy : List CopyRecord → ℕ → ℕ → ℕ → Bool
is_copy copies k p v =
    nat_lt k (length copies) && ((get_or copies k no_copy).board == p && (get_or copies k no_copy).vertex == v)

-- an edge's boards differ, and it names its vertex's copies on them
abbrev pub edge_fits : ℕ → List CopyRecord → Edge → Bool
edge_fits boards copies e =
    (nat_lt e.from boards && (nat_lt e.to boards && nat_lt e.vertex 1024)) &&
    (not (e.from == e.to) &&
    (is_copy copies e.leaf e.from e.vertex && is_copy copies e.root e.to e.vertex))

-- a plan has 1 to 8 boards
abbrev pub boards_fit : ℕ → Bool
boards_fit boards = nat_le 1 boards && nat_le boards 8

abbrev pub sound_copies : ℕ → List CopyRecord → Bool
sound_copies boards copies = each (copy_fits boards) copies && rising copy_before copies

abbrev pub sound_edges : ℕ → List CopyRecord → List Edge → Bool
sound_edges boards copies edges = each (edge_fits boards copies) edges && rising edge_before edges

-- the records keep the rules of a plan
abbrev pub sound_plan : ℕ → List CopyRecord → List Edge → Bool
sound_plan boards copies edges =
    boards_fit boards && (sound_copies boards copies && sound_edges boards copies edges)
