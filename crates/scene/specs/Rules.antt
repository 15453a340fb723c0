-- The rules that bytes keep to be a scene: for each record a list of rules in the order in which they are tried,
-- each with the fault that stands for breaking it.
use Rattle.std.specs.Prelude.{ℕ, ◌+◌, ◌-◌, ◌*◌, ◌%◌, Bool, true, cond, not, ◌&&◌, ◌||◌, List, [], ◌∷◌, ◌++◌, map}
use Rattle.std.specs.Prelude.{length, Ok, Err, Result, ◌==◌, nat_le, nat_lt, slice_index}
use Rattle.std.specs.List.{range_with_len, flat_map}
use Rattle.element.specs.Kinds.{is_kind, used_by}
use Rattle.scene.specs.Layout.{byte_at, number_at, word_at, corners_of, header_mark, cell_mark, end_mark}
use Rattle.scene.specs.Layout.{cell_size, cell_place, corner_place, word_place}
use Rattle.scene.specs.declared.head.Head.{Head}
use Rattle.scene.specs.declared.fault.RecordFault.{RecordFault}
use Rattle.scene.specs.declared.fault.RecordFault.TheVariants.{Short, Mark, Header, Cell, Corners, Word, Trailing}
use Rattle.scene.specs.declared.fault.SceneFault.{SceneFault}
use Rattle.scene.specs.declared.fault.Broken.{Broken}

-- whether a rule holds, and the fault where it does not
abbrev pub Rule : Type 0 → Type 0
Rule F = Bool × F

-- what the header says about the cells
abbrev pub head_of : List ℕ → Head
head_of b =
    record {
      corners = corners_of b;
      used = used_by (byte_at b 3);
      boards = byte_at b 4;
      vertices = number_at b 6;
      cells = number_at b 8;
    }

-- the two bytes of a mark stand at a place
abbrev pub marked : List ℕ → ℕ → List ℕ → Bool
marked b at mark = byte_at b at == slice_index mark 0 && byte_at b (at + 1) == slice_index mark 1

abbrev pub header_rules : List ℕ → List (Rule RecordFault)
header_rules b =
    (nat_le 10 (length b), Short 0)
    ∷ (marked b 0 header_mark, Mark 0)
    ∷ ((byte_at b 2 == 1), Header 2)
    ∷ (is_kind (byte_at b 3), Header 3)
    ∷ (nat_le 1 (byte_at b 4) && nat_le (byte_at b 4) 8, Header 4)
    ∷ (nat_le (byte_at b 5) 4, Header 5)
    ∷ (nat_le (number_at b 6) 1024, Header 6)
    ∷ (nat_le (number_at b 8) 1024, Header 8)
    ∷ []

-- corner number i is a vertex of the scene
abbrev pub corner_rule : Head → List ℕ → ℕ → ℕ → List (Rule RecordFault)
corner_rule h b at i = (nat_lt (number_at b (corner_place at i)) h.vertices, Cell (corner_place at i)) ∷ []

-- corners number i and j differ
abbrev pub pair_rule : List ℕ → ℕ → ℕ → ℕ → List (Rule RecordFault)
pair_rule b at i j =
    (not (number_at b (corner_place at i) == number_at b (corner_place at j)), Corners (corner_place at j)) ∷ []

-- corner number i differs from each later one
abbrev pub pair_rules : Head → List ℕ → ℕ → ℕ → List (Rule RecordFault)
pair_rules h b at i = flat_map (pair_rule b at i) (range_with_len (i + 1) (h.corners - (i + 1)))

-- word number w of a cell's contributions, three to a corner, is zero if it is past the used words
abbrev pub word_rule : Head → List ℕ → ℕ → ℕ → List (Rule RecordFault)
word_rule h b at w =
    let place = word_place h.corners at w in (nat_lt (w % 3) h.used || (word_at b place == 0), Word place) ∷ []

-- length, mark, board and zero byte of the cell at a place
abbrev pub start_rules : Head → List ℕ → ℕ → List (Rule RecordFault)
start_rules h b at =
    (nat_le (at + cell_size h.corners) (length b), Short at)
    ∷ (marked b at cell_mark, Mark at)
    ∷ (nat_lt (byte_at b (at + 2)) h.boards, Cell (at + 2))
    ∷ ((byte_at b (at + 3) == 0), Cell (at + 3))
    ∷ []

-- the cell at a place
abbrev pub cell_rules : Head → List ℕ → ℕ → List (Rule RecordFault)
cell_rules h b at =
    start_rules h b at
    ++ (flat_map (corner_rule h b at) (range_with_len 0 h.corners)
    ++ (flat_map (pair_rules h b at) (range_with_len 0 h.corners)
    ++ flat_map (word_rule h b at) (range_with_len 0 (3 * h.corners))))

abbrev pub end_rules : List ℕ → ℕ → List (Rule RecordFault)
end_rules b at =
    (nat_le (at + 2) (length b), Short at)
    ∷ (marked b at end_mark, Mark at)
    ∷ (nat_le (length b) (at + 2), Trailing (at + 2))
    ∷ []

-- the rules of record number n, with the scene's faults
abbrev pub in_record : ℕ → List (Rule RecordFault) → List (Rule SceneFault)
in_record n rs = map (λ r. (r.0, record { «record» = n; fault = r.1 })) rs

-- the rules of the record of cell number n
abbrev pub cell_record : Head → List ℕ → ℕ → List (Rule SceneFault)
cell_record h b n = in_record (n + 1) (cell_rules h b (cell_place h.corners n))

-- the records behind the header
abbrev pub body_rules : Head → List ℕ → List (Rule SceneFault)
body_rules h b =
    flat_map (cell_record h b) (range_with_len 0 h.cells)
    ++ in_record (h.cells + 1) (end_rules b (cell_place h.corners h.cells))

-- all rules of a scene, in file order
abbrev pub scene_rules : List ℕ → List (Rule SceneFault)
scene_rules b = in_record 0 (header_rules b) ++ body_rules (head_of b) b

abbrev pub all_hold : {F : Type 0} → List (Rule F) → Bool
all_hold [] = true
all_hold (r ∷ rs) = r.0 && all_hold rs

-- whether bytes are a scene
abbrev pub admits : List ℕ → Bool
admits b = all_hold (scene_rules b)

-- the fault of the first rule that does not hold, if there is one
abbrev pub verdict : {F : Type 0} → List (Rule F) → Result (Unit {0}) F
verdict [] = Ok tt
verdict (r ∷ rs) = cond r.0 (verdict rs) (Err r.1)

-- a record's fault with the record's number
abbrev pub broken : {T : Type 0} → ℕ → Result T RecordFault → Result T Broken
broken n (Ok x) = Ok x
broken n (Err f) = Err (record { number = n; fault = f })
