-- How calls carry a run, and its promise, from one moment to the next.
use Rattle.std.specs.Prelude.{◌≡◌, ℕ, ◌+◌, ◌<◌, ◌≤◌, ◌⊎◌, List, [], ◌∷◌, ◌++◌, map, length, get_or, take, drop}
use Rattle.std.specs.Prelude.{replicate, Some, None, Ok, Err, Result, slice_index_or, IfOk}
use Rattle.element.specs.Algebra.{Algebra}
use Rattle.medium.specs.Lanes.{Lanes}
use Rattle.scene.specs.Cells.{Scene, Sound}
use Rattle.scene.specs.Sums.{own_sum, undivided}
use Rattle.plan.specs.Links.{Shape, no_copy}
use Rattle.plan.specs.Starts.{copies_on}
use Rattle.plan.specs.declared.records.CopyRecord.{CopyRecord}
use Rattle.plan.specs.declared.records.Edge.{Edge}
use Rattle.forest.specs.Forest.{laid_copies, laid_edges}
use Rattle.protocol.specs.declared.tally.Report.{Report}
use Rattle.protocol.specs.declared.tally.Tally.{Tally}
use Rattle.protocol.specs.declared.tally.TurnCounts.{TurnCounts}
use Rattle.protocol.specs.declared.table.Link.{Link}
use Rattle.protocol.specs.Books.{Book, blank, fed, lacks, HasAll, report_by}
use Rattle.protocol.specs.Runs.{Moment, Run, Still, laid, moment, no_tally, no_link}
use Rattle.protocol.specs.Promise.{Promise}
use Rattle.protocol.specs.declared.fault.RunFault.{RunFault}
use Rattle.protocol.specs.declared.fault.RunFault.TheVariants.{Early}
use Rattle.sums.specs.Sums.{load_fault, loaded_copies}
use Rattle.exchange.specs.Calls.{IdleBefore, WaitingFault}
use Rattle.exchange.specs.declared.run.Turning.{Turning}

-- these records are the laid plan of an accepted scene
pub record LaidPlan (s : Scene) (boards : ℕ) (copies : List CopyRecord) (edges : List Edge) : Type 0 where
  pub sound : Sound s
  pub same_boards : boards ≡ s.boards
  pub same_copies : copies ≡ laid_copies s
  pub same_edges : edges ≡ laid_edges s

-- each copy of the scene's laid plan holds its board's own sum, as loading sets it
pub record OwnSums {M : Type 0} (A : Algebra M) (s : Scene) (copies : List M) : Type 0 where
  pub room : length (laid_copies s) ≤ length copies
  pub loaded : (c : ℕ) → c < length (laid_copies s)
      → slice_index_or copies c A.zero
      ≡ own_sum A s (get_or (laid_copies s) c no_copy).board (get_or (laid_copies s) c no_copy).vertex

-- a moment of a run, with all that is promised of it
pub record Kept {M : Type 0} (A : Algebra M) (s : Scene) (ts : List ℕ) (m : Moment M) (book : Book) (losses : ℕ) :
    Type 0 where
  pub run : Run A s ts m book losses
  pub promise : Promise A s ts m book losses

-- an accepted turn carries every run on, and the promise with it; a refused one is a call that leaves it where it is
abbrev pub GoesOn : {M : Type 0} → Algebra M → Scene → ℕ → Moment M → Moment M → Result TurnCounts RunFault → Type 0
GoesOn A s p m m' (Ok n) = (ts : List ℕ) (book : Book) (losses : ℕ) → Run A s ts m book losses
    → Kept A s (ts ++ (p ∷ [])) m' (fed (laid A s) p m.lanes book) (losses + n.lost)
GoesOn A s p m m' (Err f) =
    Still A s m
    × ((ts : List ℕ) (book : Book) (losses : ℕ) → Run A s ts m book losses → Kept A s ts m' book losses)

-- every run that was at m is at m' after the turns of these boards, and keeps its promise
abbrev pub Carried : {M : Type 0} → Algebra M → Scene → Moment M → Moment M → List ℕ → Type 0
Carried A s m m' us = (ts : List ℕ) (book : Book) (losses : ℕ) → Run A s ts m book losses
    → (book' : Book) × (losses' : ℕ) × Kept A s (ts ++ us) m' book' losses'

-- the undivided totals of these copies
abbrev pub totals_of : {M : Type 0} → Algebra M → Scene → List CopyRecord → List M
totals_of A s records = map (λ r. undivided A s r.vertex) records

-- what holds of the book in every run whose tally and links are these, whatever its copies and lanes
abbrev pub InEveryRun : {M : Type 0} → Algebra M → Scene → Tally → List Link → (Book → List M → Type 0) → Type 0
InEveryRun {M} A s tally links Holds = (copies : List M) (lanes : Lanes) (ts : List ℕ) (book : Book) (losses : ℕ)
    → Run A s ts (moment tally links copies lanes) book losses → Holds book copies

-- a report, which is made from the table, is the one that the book gives
abbrev pub ReportsTheBook : {M : Type 0} → Algebra M → Scene → ℕ → Result Report RunFault → Book → List M → Type 0
ReportsTheBook A s p r book copies = IfOk r (λ report. report ≡ report_by (laid A s) book p)

-- board b is the lowest that lacks something by the book
pub record LowestLacking (P : Shape) (book : Book) (b : ℕ) : Type 0 where
  pub is_board : b < P.boards
  pub lacks_some : (q : ℕ) × (q < P.boards) × (0 < lacks P book b q)
  pub lower_have_all : (p : ℕ) → p < b → HasAll P book p

-- a run that ends has all boards settled by the book, and each copy holds the undivided total;
-- of one that does not end the board is named that is the lowest to lack something by the book
abbrev pub EndsByTheBook : {M X Y : Type 0} → Algebra M → Scene → Result X (Y × RunFault) → Book → List M → Type 0
EndsByTheBook A s (Ok _) book copies =
    ((p : ℕ) → p < s.boards → HasAll (laid A s) book p)
    × (take (length (laid_copies s)) copies ≡ totals_of A s (laid_copies s))
EndsByTheBook A s (Err e) book copies = (b : ℕ) × LowestLacking (laid A s) book b × (e.1 ≡ Early b)

-- why a run does not begin: what is against loading, or else a frame that waits
abbrev pub BeginFault : {M : Type 0} → Algebra M → Scene → List CopyRecord → List M → Lanes → RunFault → Type 0
BeginFault A s records memory lanes f =
    (load_fault A s records memory ≡ Some f) ⊎ ((load_fault A s records memory ≡ None) × WaitingFault lanes f)

-- a run begins, the copies loaded and all counts zero; or it is refused, and all stays
abbrev pub BeginAnswers : {M : Type 0} → Algebra M → Scene → List CopyRecord → Lanes → List M → List M
    → List Link → List Link → Result Turning RunFault → Type 0
BeginAnswers A s records lanes memory memory' links links' (Ok t) =
    (load_fault A s records memory ≡ None)
    × IdleBefore lanes 64
    × (t.tally ≡ no_tally)
    × (memory' ≡ loaded_copies A s records ++ drop (length records) memory)
    × (links' ≡ replicate 64 no_link)
BeginAnswers A s records lanes memory memory' links links' (Err f) =
    BeginFault A s records memory lanes f × (memory' ≡ memory) × (links' ≡ links)

-- in every run of a laid plan whose links and copies are these, board p's copies are the undivided totals
abbrev pub ShowsTotals : {M : Type 0} → Algebra M → ℕ → List CopyRecord → List Edge → List Link → List M → ℕ → List M
    → Type 0
ShowsTotals A boards records edges links copies p shown = (s : Scene) → LaidPlan s boards records edges
    → (tally : Tally) (lanes : Lanes) (ts : List ℕ) (book : Book) (losses : ℕ)
    → Run A s ts (moment tally links copies lanes) book losses
    → shown ≡ totals_of A s (copies_on records p)

-- and by the laid plan it is a fresh run that keeps its promise
abbrev pub BeginsFresh : {M : Type 0} → Algebra M → Scene → ℕ → List CopyRecord → List Edge → List Link → List M
    → Lanes → Result Turning RunFault → Type 0
BeginsFresh A s boards records edges links copies lanes r = IfOk r (λ t. LaidPlan s boards records edges
    → Kept A s [] (moment t.tally links copies lanes) blank 0)
