-- Where a plan's links and boards begin among its records.
use Rattle.std.specs.Prelude.{◌≡◌, ℕ, ◌+◌, ◌*◌, ◌<◌, List, length, take, drop, filter, nat_eq, nat_lt, slice_index}
use Rattle.plan.specs.declared.records.CopyRecord.{CopyRecord}
use Rattle.plan.specs.declared.records.Edge.{Edge}

-- links are numbered by leaf board, then root board
abbrev pub link_number : Edge → ℕ
link_number e = 8 * e.from + e.to

-- how many edges are of links whose number is below x
abbrev pub edges_before : List Edge → ℕ → ℕ
edges_before edges x = length (filter (λ e. nat_lt (link_number e) x) edges)

-- how many edges are of link x
abbrev pub edges_on : List Edge → ℕ → ℕ
edges_on edges x = length (filter (λ e. nat_eq (link_number e) x) edges)

-- the table has, for each link, how many edges come before it; at 64, past the last link, it has all
abbrev pub Starts : List ℕ → List Edge → Type 0
Starts starts edges = (x : ℕ) → x < 65 → slice_index starts x ≡ edges_before edges x

-- the copies of board p, in the order of the plan
abbrev pub copies_on : List CopyRecord → ℕ → List CopyRecord
copies_on copies p = filter (λ c. nat_eq c.board p) copies

-- how many copies are of boards below p
abbrev pub copies_before : List CopyRecord → ℕ → ℕ
copies_before copies p = length (filter (λ c. nat_lt c.board p) copies)

-- of what goes along with the copies, in their order, the part of board p
abbrev pub values_on : {M : Type 0} → List CopyRecord → List M → ℕ → List M
values_on records values p = take (length (copies_on records p)) (drop (copies_before records p) values)
