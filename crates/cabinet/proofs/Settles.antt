-- Over a medium that fills empty lanes, and begins empty, a run is listed settled.
use Rattle.std.proofs.Common.{◌≡◌, ℕ, zero, suc, ◌/◌, ◌%◌, ◌<◌, ◌≤◌, ltb, not, List, [], ◌∷◌, ◌++◌, length}
use Rattle.std.proofs.Common.{is_ok, replicate, sym, refl, ap, ap₂, ◌∙◌, subst, inl, inr, append-nil, arith, rules}
use Rattle.std.specs.List.{flat_map, range_with_len}
use Rattle.std.proofs.lemmas.Bool.{cases_Bool, false≢true, ltb-true, ltb-false}
use Rattle.std.proofs.lemmas.List.{length-replicate}
use Rattle.std.proofs.lemmas.List.Concat.{flat_map-append}
use Rattle.element.specs.Algebra.{Algebra, Lawful}
use Rattle.element.specs.Models.{force_algebra, depth_algebra, tags_algebra}
use Rattle.element.specs.Forces.{force_lawful}
use Rattle.element.specs.Unions.{tags_lawful}
use Rattle.medium.specs.Calls.{Rules, FillsEmptyLanes}
use Rattle.scene.specs.Cells.{Scene, Sound}
use Rattle.scene.specs.Layout.{scene_of}
use Rattle.scene.specs.Rules.{scene_rules}
use Rattle.scene.specs.Sums.{undivided}
use Rattle.scene.proofs.Soundness.{sound}
use Rattle.scene.proofs.Verdicts.{verdict_ok}
use Rattle.plan.specs.Starts.{copies_on, values_on}
use Rattle.plan.specs.declared.records.CopyRecord.{CopyRecord}
use Rattle.forest.specs.Forest.{laid_copies, laid_edges}
use Rattle.forest.proofs.Accepted.{laid_plan_is_sound}
use Rattle.forest.proofs.Filters.{counting_next}
use Rattle.forest.proofs.Lowest.{lowest_passes}
use Rattle.protocol.specs.Books.{HasAll, is_settled, lowest_unsettled}
use Rattle.protocol.specs.Runs.{accepted_in, laid}
use Rattle.protocol.specs.declared.tally.Report.{Report}
use Rattle.protocol.specs.declared.tally.Report.TheVariants.{Settled}
use Rattle.exchange.specs.Going.{LaidPlan, totals_of}
use Rattle.exchange.proofs.Shown.{all_reported, shown_are_totals}
use Rattle.circles.specs.Chains.{moment_at, all_settled}
use Rattle.circles.specs.Circles.{circles}
use Rattle.circles.proofs.Full.{circles_cut, circles_full}
use Rattle.circles.proofs.NoLoss.{circles_lose_none}
use Rattle.listing.specs.Lines.{board_line, copy_line}
use Rattle.cabinet.specs.Listed.{Listed, RunTold, VerdictTold, PageTold, fresh, waits, record_room, circle_limit}
use Rattle.cabinet.specs.Listed.{started}
use Rattle.cabinet.specs.Pages.{copies_page, boards_page, table_report, head_page, numbers_of}
use Rattle.cabinet.specs.Programs.{settled_board, ListsSettled, AlwaysSettles}

-- ---- the page of settled boards

module _ {M : Type 0} (A : Algebra M) (s : Scene) where
  totals_page : (rs : List CopyRecord)
      → copies_page A rs (totals_of A s rs) ≡ flat_map (λ c. copy_line c (A.pack (undivided A s c.vertex))) rs
  totals_page [] = refl
  totals_page (r ∷ rs) = ap (λ x. copy_line r (A.pack (undivided A s r.vertex)) ++ x) (totals_page rs)

  module _ (report : ℕ → Report) (values : List M)
      (totals : (p : ℕ) → values_on (laid_copies s) values p ≡ totals_of A s (copies_on (laid_copies s) p)) where
    settled_boards : (n : ℕ) → ((p : ℕ) → p < n → report p ≡ Settled)
        → boards_page A report (laid_copies s) values n ≡ flat_map (settled_board A s) (range_with_len 0 n)
    settled_boards zero settled = refl
    settled_boards (suc n) settled =
        let rs = copies_on (laid_copies s) n in
        let here = ap₂ (λ r x. board_line n r ++ x) (settled n (omega arith))
        (ap (copies_page A rs) (totals n) ∙ totals_page rs) in
        ap₂ ◌++◌ (settled_boards n (λ p l. settled p (omega arith)))
        (here ∙ sym (append-nil (settled_board A s n)))
        ∙ sym (ap (flat_map (settled_board A s)) (counting_next n)
        ∙ flat_map-append (settled_board A s) (range_with_len 0 n) (n ∷ []))

-- ---- a run

module _ {M D : Type 0} (A : Algebra M) (law : Lawful A) (R : Rules D) (fills : FillsEmptyLanes R) (s : Scene)
    (ok : Sound s) (few : length (laid_edges s) ≤ record_room) (d : D) (empty : (a b : ℕ) → R.lanes d a b ≡ [])
    (page : List ℕ) (l : Listed A R s d page) where
  abbrev table : ℕ → ℕ → ℕ
  table = accepted_in l.end.links

  none_lost : l.losses ≡ 0
  none_lost =
      sym l.kept.promise.tally_counts_losses
      ∙ circles_lose_none A R fills (laid A s) ok.few_boards (all_settled (laid A s)) (started A s d) l.run.circles
      l.end empty l.run.led

  -- as many circles as allowed are more than enough
  enough_made : l.run.circles ≡ circle_limit → (p : ℕ) → p < s.boards → HasAll (laid A s) l.book p
  enough_made many =
      let c = range_with_len 0 s.boards in
      l.kept.promise.enough_circles_settle_all_boards (replicate l.run.circles c) []
      (circles_cut s.boards l.run.circles) (circles_full s.boards l.run.circles)
      (omega (arith, none_lost, length-replicate l.run.circles c))

  none_unsettled : s.boards ≤ lowest_unsettled (laid A s) table
  none_unsettled = elim (cases_Bool (ltb (lowest_unsettled (laid A s) table) s.boards)) [
    | inr none ↦ ltb-false _ _ none
    | inl some ↦
        let p = lowest_unsettled (laid A s) table in
        let low = ltb-true p s.boards some in
        let settled = l.kept.promise.reports_follow_the_book p low
        ∙ l.kept.promise.settled_is_reported_settled p low (enough_made (l.run.ended (ap not some)) p low) in
        absurd (false≢true (sym (ap (λ r. not (is_settled r)) settled) ∙ lowest_passes _ s.boards low))
  ]

  -- the circles end with every board settled, each of its copies at its total
  pub listed_settled : ListsSettled A s page
  listed_settled =
      let plan : LaidPlan s s.boards (laid_copies s) (laid_edges s) =
      record { sound = ok; same_boards = refl; same_copies = refl; same_edges = refl } in
      let totals = shown_are_totals A law s s.boards (laid_copies s) (laid_edges s) (laid_plan_is_sound s ok) plan
      (circles s.boards l.run.circles) (moment_at R l.end) l.book l.losses l.kept.run none_unsettled in (
        l.end.tally,
        l.told
            ∙ ap (λ x. head_page (numbers_of s (laid_copies s) (laid_edges s)) l.end.tally ++ x)
            (settled_boards A s (table_report s.boards (laid_edges s) l.end.links) l.end.copies totals s.boards
            (all_reported (laid A s) table none_unsettled)),
      )

-- ---- whole pages

module _ {D : Type 0} (R : Rules D) (fills : FillsEmptyLanes R) (d : D) (empty : (a b : ℕ) → R.lanes d a b ≡ [])
    (page : List ℕ) where
  run_settled : {M : Type 0} (A : Algebra M) → Lawful A → (s : Scene) → Sound s → length (laid_edges s) ≤ record_room
      → RunTold A R s d page → ListsSettled A s page
  run_settled A law s ok few (fresh _ l) = listed_settled A law R fills s ok few d empty page l
  run_settled A law s ok few (waits k w _) = absurd (omega (arith, ap length (empty (k / 8) (k % 8)), w.waits))

  -- a page that is told of a run over an empty medium always settles
  pub always_settles : (bytes : List ℕ) → PageTold R bytes d page → AlwaysSettles bytes page
  always_settles bytes told accepted few_copies few_edges =
      let s = scene_of bytes in
      let ok = sound bytes (verdict_ok (scene_rules bytes) ∙ ap is_ok accepted) in
      let kind = (subst (λ v. VerdictTold R v s d page) accepted told).runs few_copies few_edges in
      record {
        forces = λ e. run_settled force_algebra force_lawful s ok few_edges (kind.forces e);
        depths = λ e. run_settled depth_algebra (Prim.search rules) s ok few_edges (kind.depths e);
        tags = λ e. run_settled tags_algebra tags_lawful s ok few_edges (kind.tags e);
      }
