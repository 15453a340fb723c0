-- What reports, an end and what is shown say of a run: they follow the book, and shown copies are totals.
use Rattle.std.proofs.Common.{◌≡◌, ℕ, ◌+◌, ◌<◌, ◌≤◌, true, false, cond, not, nat_lt, Ok, Err, List, map, length}
use Rattle.std.proofs.Common.{get_or, take, drop, sym, refl, ap, ◌∙◌, subst, ap₂, inl, inr, arith}
use Rattle.std.proofs.ByRecursion.{All-get_or}
use Rattle.std.proofs.lemmas.List.{ext_get_or, length-take, length-drop, length-map, get_or-take, get_or-drop}
use Rattle.std.proofs.lemmas.List.{get_or-map, take_all}
use Rattle.std.proofs.lemmas.Bool.{cases_Bool, both_ways, cases_lt, lt-ltb, le-ltb}
use Rattle.element.specs.Algebra.{Algebra, Lawful}
use Rattle.scene.specs.Cells.{Scene}
use Rattle.scene.specs.Sums.{undivided}
use Rattle.plan.specs.Links.{Shape, shape, no_copy}
use Rattle.plan.specs.Sound.{sound_plan}
use Rattle.plan.specs.Starts.{copies_on, copies_before, values_on}
use Rattle.plan.specs.declared.records.CopyRecord.{CopyRecord}
use Rattle.plan.specs.declared.records.Edge.{Edge}
use Rattle.plan.proofs.Plans.{board_part, board_part_within, copies_below}
use Rattle.forest.specs.Forest.{laid_copies}
use Rattle.forest.proofs.Lowest.{lowest_first, lowest_passes, lowest_same}
use Rattle.protocol.specs.Books.{Book, HasAll, is_settled, report_by, lowest_unsettled}
use Rattle.protocol.specs.Promise.{Promise}
use Rattle.protocol.specs.Runs.{Moment, Run, fresh, turn, call, laid, accepted_in}
use Rattle.protocol.specs.declared.fault.RunFault.{RunFault}
use Rattle.protocol.specs.declared.tally.Report.{Report}
use Rattle.protocol.specs.declared.tally.Report.TheVariants.{Settled, Awaits}
use Rattle.protocol.proofs.Theorem.{promise_holds}
use Rattle.exchange.specs.Going.{LaidPlan, LowestLacking, totals_of}

settled_report : (r : Report) → is_settled r ≡ true → r ≡ Settled
settled_report Settled e = refl
settled_report (Awaits board items) e = absurd (both_ways false refl e)

awaiting_report : (r : Report) → not (is_settled r) ≡ true → (q : ℕ) × (k : ℕ) × (r ≡ Awaits q k)
awaiting_report Settled e = absurd (both_ways false refl e)
awaiting_report (Awaits board items) e = (board, items, refl)

-- below the lowest board that is not settled each is reported settled
reported_below : (P : Shape) (count : ℕ → ℕ → ℕ) (p : ℕ) → p < P.boards → p < lowest_unsettled P count
    → report_by P count p ≡ Settled
reported_below P count p l low = elim (cases_Bool (is_settled (report_by P count p))) [
  | inl e ↦ settled_report (report_by P count p) e
  | inr e ↦ absurd (omega (
    arith,
    lowest_first (λ r. not (is_settled (report_by P count r))) P.boards p l
        (ap not e),
  ))
]

-- where no board is unsettled, each is reported settled
pub all_reported : (P : Shape) (count : ℕ → ℕ → ℕ) → P.boards ≤ lowest_unsettled P count
    → (p : ℕ) → p < P.boards → report_by P count p ≡ Settled
all_reported P count all p l = reported_below P count p l (omega arith)

-- a report that is answered was asked of a board that there is
pub reported : (n p : ℕ) (x r : Report) (f : RunFault)
    → Ok r ≡ cond (nat_lt p n) (Ok x) (Err f) → (p < n) × (r ≡ x)
reported n p x r f e = elim (cases_lt p n) [
  | inl l ↦ (l, let same = rw (lt-ltb p n l) at e in cc)
  | inr m ↦ let other = rw (le-ltb p n (omega arith)) at e in absurd (cc)
]

-- a part of one list is the image of the same part of another, if it is so place by place
part_is_image : {X Y : Type 0} (f : X → Y) (xs : List X) (ys : List Y) (x : X) (y : Y) (from count : ℕ)
    → from + count ≤ length xs → length xs ≤ length ys
    → ((c : ℕ) → from ≤ c → c < from + count → get_or ys c y ≡ f (get_or xs c x))
    → take count (drop from ys) ≡ map f (take count (drop from xs))
part_is_image f xs ys x y from count within room same =
    let here : length (take count (drop from xs)) ≡ count = omega
    (arith, length-take count (drop from xs), length-drop from xs) in
    let there : length (take count (drop from ys)) ≡ count = omega
    (arith, length-take count (drop from ys), length-drop from ys) in
    ext_get_or y (take count (drop from ys)) (map f (take count (drop from xs)))
    (there ∙ sym (length-map (take count (drop from xs)) f ∙ here)) (λ i l.
    let low : i < count = omega (arith, there) in
    get_or-take count (drop from ys) i y low ∙ get_or-drop from ys i y ∙ same (from + i) (omega arith) (omega arith)
    ∙ ap f (sym (get_or-take count (drop from xs) i x low ∙ get_or-drop from xs i x))
    ∙ sym (get_or-map f (take count (drop from xs)) i x y (omega (arith, here))))

-- a run keeps its memory
run_has_room : {M : Type 0} (A : Algebra M) (s : Scene) {ts : List ℕ} {m : Moment M} {book : Book} {l : ℕ}
    → Run A s ts m book l → length (laid_copies s) ≤ length m.copies
run_has_room A s (fresh f) = f.room
run_has_room A s (turn p m' r t) = omega (arith, run_has_room A s r, t.same_length)
run_has_room A s (call c r) = run_has_room A s r

module _ {M : Type 0} (A : Algebra M) (law : Lawful A) (s : Scene) (boards : ℕ) (records : List CopyRecord)
    (edges : List Edge) (sound : sound_plan boards records edges ≡ true) (plan : LaidPlan s boards records edges)
    (ts : List ℕ) (m : Moment M) (book : Book) (losses : ℕ) (run : Run A s ts m book losses) where
  abbrev table : ℕ → ℕ → ℕ
  table = accepted_in m.links

  promised : Promise A s ts m book losses
  promised = promise_holds A law s plan.sound ts m book losses run

  same_shape : shape boards edges ≡ laid A s
  same_shape = ap₂ shape plan.same_boards plan.same_edges

  pub report_is_the_books : (p : ℕ) → p < boards
      → report_by (shape boards edges) table p ≡ report_by (laid A s) book p
  report_is_the_books p l =
      ap (λ S. report_by S table p) same_shape
      ∙ promised.reports_follow_the_book p (omega (arith, plan.same_boards))

  pub lowest_is_the_books : lowest_unsettled (shape boards edges) table ≡ lowest_unsettled (laid A s) book
  lowest_is_the_books =
      ap (λ S. lowest_unsettled S table) same_shape
      ∙ lowest_same _ _ s.boards
      (λ p l. ap (λ r. not (is_settled r)) (promised.reports_follow_the_book p l))

  -- the lowest board that is not settled is the lowest that lacks something by the book
  pub lowest_lacks : lowest_unsettled (shape boards edges) table < boards
      → LowestLacking (laid A s) book (lowest_unsettled (shape boards edges) table)
  lowest_lacks some =
      let b = lowest_unsettled (laid A s) book in
      let low : b < s.boards = omega (arith, lowest_is_the_books, plan.same_boards) in
      let (q, k, awaits) = awaiting_report (report_by (laid A s) book b)
      (lowest_passes (λ r. not (is_settled (report_by (laid A s) book r))) s.boards low) in
      let (is_board, is, more, _) = promised.reports_name_the_lowest_lacking b q k low awaits in
      subst (LowestLacking (laid A s) book) (sym lowest_is_the_books) record {
        is_board = low;
        lacks_some = (q, is_board, omega (arith, is));
        lower_have_all = λ p l. let m : p < s.boards = omega arith in
            promised.reported_settled_is_settled p m (reported_below (laid A s) book p m l);
      }

  module _ (all : boards ≤ lowest_unsettled (shape boards edges) table) where
    pub all_have_all : (p : ℕ) → p < s.boards → HasAll (laid A s) book p
    all_have_all p l =
        let low : p < boards = omega (arith, plan.same_boards) in
        promised.reported_settled_is_settled p l
        (sym (report_is_the_books p low) ∙ all_reported (shape boards edges) table all p low)

    copy_holds_total : (c : ℕ) → c < length records
        → get_or m.copies c A.zero ≡ undivided A s (get_or records c no_copy).vertex
    copy_holds_total c l =
        let same = plan.same_copies in
        let board = (All-get_or _ records c no_copy l (copies_below boards records edges sound)).0 in
        let pb : (get_or records c no_copy).board < s.boards = omega (arith, board, plan.same_boards) in
        promised.settled_boards_hold_the_total _ pb (all_have_all _ pb) c (omega (arith, ap length same))
        (ap (λ rs. (get_or rs c no_copy).board) (sym same))
        ∙ ap (λ rs. undivided A s (get_or rs c no_copy).vertex) (sym same)

    totals_in : (from count : ℕ) → from + count ≤ length records
        → take count (drop from m.copies) ≡ totals_of A s (take count (drop from records))
    totals_in from count within =
        part_is_image (λ (r : CopyRecord). undivided A s r.vertex) records m.copies no_copy A.zero from count
        within (omega (arith, run_has_room A s run, ap length plan.same_copies))
        (λ c low high. copy_holds_total c (omega arith))

    pub copies_are_totals : take (length (laid_copies s)) m.copies ≡ totals_of A s (laid_copies s)
    copies_are_totals =
        subst (λ rs. take (length rs) m.copies ≡ totals_of A s rs) plan.same_copies
        (totals_in 0 (length records) (omega arith)
        ∙ ap (totals_of A s) (take_all (length records) records (omega arith)))

    pub shown_are_totals : (p : ℕ) → values_on records m.copies p ≡ totals_of A s (copies_on records p)
    shown_are_totals p =
        totals_in (copies_before records p) (length (copies_on records p))
        (board_part_within boards records edges sound p)
        ∙ ap (totals_of A s) (board_part boards records edges sound p)
