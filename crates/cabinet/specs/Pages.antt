-- The bytes of a page: lines, one after the other.
use Rattle.std.specs.Prelude.{ℕ, zero, suc, List, [], ◌∷◌, ◌++◌, length, Result, MatchResult, IfOk, Vec, vec_items}
use Rattle.element.specs.Algebra.{Algebra}
use Rattle.element.specs.Numbers.{first_number, last_number}
use Rattle.scene.specs.Cells.{Scene}
use Rattle.plan.specs.Links.{shape}
use Rattle.plan.specs.Starts.{copies_on, values_on}
use Rattle.plan.specs.declared.records.CopyRecord.{CopyRecord}
use Rattle.plan.specs.declared.records.Edge.{Edge}
use Rattle.protocol.specs.Books.{report_by}
use Rattle.protocol.specs.Runs.{Moment, accepted_in}
use Rattle.protocol.specs.declared.table.Link.{Link}
use Rattle.protocol.specs.declared.tally.Report.{Report}
use Rattle.protocol.specs.declared.tally.Tally.{Tally}
use Rattle.listing.specs.Lines.{plan_line, tally_line, board_line, copy_line, refusal_line}
use Rattle.listing.specs.declared.lines.PlanNumbers.{PlanNumbers}
use Rattle.refusals.specs.Numbers.{refusal_numbers}
use Rattle.refusals.specs.declared.refusal.Refusal.{Refusal}

-- a line for each copy, with the words of its value
abbrev pub copies_page : {M : Type 0} → Algebra M → List CopyRecord → List M → List ℕ
copies_page A [] values = []
copies_page A (r ∷ rs) [] = []
copies_page A (r ∷ rs) (v ∷ vs) = copy_line r (A.pack v) ++ copies_page A rs vs

-- a board's own line, then its copies
abbrev pub board_page : {M : Type 0} → Algebra M → ℕ → Report → List CopyRecord → List M → List ℕ
board_page A p report records values = board_line p report ++ copies_page A records values

-- board p, with its report and its copies
abbrev pub page_of : {M : Type 0} → Algebra M → (ℕ → Report) → List CopyRecord → List M → ℕ → List ℕ
page_of A report records values p =
    board_page A p (report p) (copies_on records p) (values_on records values p)

-- the boards below n, ascending
abbrev pub boards_page : {M : Type 0} → Algebra M → (ℕ → Report) → List CopyRecord → List M → ℕ → List ℕ
boards_page A report records values zero = []
boards_page A report records values (suc n) =
    boards_page A report records values n ++ page_of A report records values n

-- the plan's line and the tally's
abbrev pub head_page : PlanNumbers → Tally → List ℕ
head_page n t =
    plan_line n.boards n.overlap n.kind n.copies n.edges ++ tally_line t

-- a scene's numbers, and how many records its plan has
abbrev pub numbers_of : Scene → List CopyRecord → List Edge → PlanNumbers
numbers_of s records edges = record {
  boards = s.boards;
  overlap = s.overlap;
  kind = s.kind;
  copies = length records;
  edges = length edges;
}

-- what is reported of a board where the table has these links
abbrev pub table_report : ℕ → List Edge → List Link → ℕ → Report
table_report boards edges links p = report_by (shape boards edges) (accepted_in links) p

-- the listing of a moment of a run: plan, tally, then each board with what is reported of it, and its copies
abbrev pub listing : {M : Type 0} → Algebra M → Scene → List CopyRecord → List Edge → Moment M → List ℕ
listing A s records edges m =
    head_page (numbers_of s records edges) m.tally
    ++ boards_page A (table_report s.boards edges m.links) records m.copies s.boards

-- the one line that tells a refusal: its first number and its last
abbrev pub refused_page : Refusal → List ℕ
refused_page f = refusal_line (first_number (refusal_numbers f)) (last_number (refusal_numbers f))

-- this holds of the page, or of a refusal's; or there was no memory for the page
abbrev pub Paged : {Z E : Type 0} → Result (Result (Vec ℕ Z) E) Refusal → (List ℕ → Type 0) → Type 0
Paged result Holds =
    MatchResult result (λ page. IfOk page (λ p. Holds (vec_items p))) (λ f. Holds (refused_page f))
