-- Every run over the laid plan of a scene keeps the promise.
use Rattle.std.proofs.Common.{◌≡◌, ℕ, ◌+◌, ◌*◌, ◌<◌, ◌≤◌, ◌≢◌, ◌⊎◌, List, ◌++◌, length, get_or, sym, ap, ◌∙◌, subst}
use Rattle.std.proofs.Common.{inl, inr, arith}
use mathlib.Core.Path.{fun_ext}
use Rattle.std.specs.List.{AllByRecursion}
use Rattle.element.specs.Algebra.{Algebra, Lawful}
use Rattle.scene.specs.Cells.{Scene, Sound}
use Rattle.plan.specs.Links.{items, no_edge}
use Rattle.forest.specs.Forest.{laid_copies, laid_edges}
use Rattle.protocol.specs.Books.{Book, lacks, HasAll, report_by}
use Rattle.protocol.specs.Runs.{Moment, Run, seen, laid, link_at, accepted_in}
use Rattle.protocol.specs.Promise.{Promise, Full, flat, copy_board, HoldsOwn, HoldsTotal, EveryRunKeepsThePromise}
use Rattle.protocol.proofs.Plan.{Plan}
use Rattle.protocol.proofs.Tied.{OfScene}
use Rattle.protocol.proofs.Pairs.{pairs, over_links}
use Rattle.protocol.proofs.Invariant.{Inv, fresh_keeps, counts_in_order}
use Rattle.protocol.proofs.Trips.{Trip}
use Rattle.protocol.proofs.Steps.{Step, trip_inv}
use Rattle.protocol.proofs.Holdings.{settled_boards_hold_totals, leaves_hold_own_sum_or_total}
use Rattle.protocol.proofs.Circles.{accepted_plus_lacking, four_circles_an_edge_settle_all}
use Rattle.protocol.proofs.Reports.{settled_report_has_all, has_all_settled_report, report_names_lowest_lacking}
use Rattle.protocol.proofs.Moments.{book_is_accepted, turns_counted, losses_counted, run_is_trip}
use Rattle.protocol.proofs.Tallies.{accepted_counted}

module _ {M : Type 0} (A : Algebra M) (law : Lawful A) (s : Scene) (P : Plan A) (tie : OfScene P s)
    (ts : List ℕ) (m : Moment M) (book : Book) (l : ℕ) (run : Run A s ts m book l) where
  -- the invariant holds at every moment
  pub run_inv : Inv P (seen A m)
  run_inv =
      let (o, f, h) = run_is_trip A s P tie run in
      trip_inv law P ts o (seen A m) l h (fresh_keeps law P o f)

  book_is : book ≡ accepted_in m.links
  book_is = fun_ext (λ a. fun_ext (λ b. book_is_accepted A s run a b))

  boards_are : P.shape.boards ≡ s.boards
  boards_are = ap (λ S. S.boards) tie.shape_is

  -- settled by the book is settled by the counts, under either name of the plan's shape
  has_all_accepted : (p : ℕ) → HasAll (laid A s) book p → HasAll P.shape (accepted_in m.links) p
  has_all_accepted p h = rw (tie.shape_is, ← book_is) h

  accepted_has_all : (p : ℕ) → HasAll P.shape (accepted_in m.links) p → HasAll (laid A s) book p
  accepted_has_all p h = subst (λ S. HasAll S book p) tie.shape_is (rw book_is h)

  -- of each link: what is known to have arrived was accepted, at most one item more was, and never more than there are
  pub run_counts_in_order : (p q : ℕ) → p < s.boards → q < s.boards → p ≢ q
      → ((link_at m.links p q).i ≤ (link_at m.links p q).j)
      × ((link_at m.links p q).j ≤ (link_at m.links p q).i + 1)
      × ((link_at m.links p q).j ≤ items (laid A s) p q)
  run_counts_in_order p q pb qb pq =
      let (a, b, c) = counts_in_order P (seen A m) run_inv p q (rw boards_are pb) (rw boards_are qb) pq in
      (a, b, subst (λ S. (link_at m.links p q).j ≤ items S p q) tie.shape_is c)

  -- each edge is two items, and each item is accepted or lacking
  pub run_accepted_plus_lacking :
      over_links s.boards book + pairs s.boards (λ a b. lacks (laid A s) book b a) ≡ 2 * length (laid_edges s)
  run_accepted_plus_lacking = rw book_is
      (subst (λ S. over_links S.boards (accepted_in m.links)
      + pairs S.boards (λ a b. lacks S (accepted_in m.links) b a)
      ≡ 2 * pairs S.boards P.shape.up)
      tie.shape_is (accepted_plus_lacking P (seen A m) run_inv)
      ∙ ap (λ e. 2 * e) tie.edges_counted)

  -- and the tally counts those accepted
  pub run_tally_counts_accepted : m.tally.accepted ≡ over_links s.boards book
  run_tally_counts_accepted = rw book_is (accepted_counted A s run)

  settled_hold : (p : ℕ) → p < s.boards → HasAll (laid A s) book p
      → (c : ℕ) → c < length (laid_copies s) → copy_board A s c ≡ p → HoldsTotal A s m c
  settled_hold p pb h c lc on =
      settled_boards_hold_totals law P (seen A m) run_inv p (rw boards_are pb) (has_all_accepted p h)
      c (tie.is_valid c lc) (tie.board_is c lc ∙ on)
      ∙ tie.total_is c lc

  ghosts_hold : (e : ℕ) → e < length (laid_edges s)
      → HoldsOwn A s m (get_or (laid_edges s) e no_edge).leaf ⊎ HoldsTotal A s m (get_or (laid_edges s) e no_edge).leaf
  ghosts_hold e le =
      let (p, q, k, pb, lk, is) = tie.edge_found e le in
      let c = P.shape.leaf p q k in
      let lc : c < length (laid_copies s) = tie.valid_is c (P.leaf_valid p q k lk) in
      subst (λ x. HoldsOwn A s m x ⊎ HoldsTotal A s m x) is
      (elim (leaves_hold_own_sum_or_total law P (seen A m) run_inv p (rw boards_are pb) q k lk) [
        | inl h ↦ inl (h ∙ tie.own_is c lc)
        | inr h ↦ inr (h ∙ tie.total_is c lc)
      ])

  -- half of the promised circles for the edges are enough
  pub four_circles_an_edge_settle_all_boards : (circles : List (List ℕ)) (rest : List ℕ) → ts ≡ flat circles ++ rest
      → AllByRecursion (Full s.boards) circles → 4 * length (laid_edges s) + 4 * l ≤ length circles
      → (p : ℕ) → p < s.boards → HasAll (laid A s) book p
  four_circles_an_edge_settle_all_boards cs rest e full enough p pb =
      let (o, f, h) = run_is_trip A s P tie run in
      let counted : pairs P.shape.boards P.shape.up ≡ length (laid_edges s) =
      rw boards_are tie.edges_counted in
      let trip : Trip (Step P) (flat cs ++ rest) o (seen A m) l = subst (λ us. Trip (Step P) us o (seen A m) l) e h in
      accepted_has_all p (four_circles_an_edge_settle_all law P cs rest (rw boards_are full)
      o (seen A m) l trip f (omega arith) p (rw boards_are pb))

  pub run_keeps_promise : Promise A s ts m book l
  run_keeps_promise = record {
    settled_boards_hold_the_total = settled_hold;
    reports_follow_the_book = λ p pb. ap (λ count. report_by (laid A s) count p) (sym book_is);
    reported_settled_is_settled = λ p pb. settled_report_has_all (laid A s) book p;
    settled_is_reported_settled = λ p pb. has_all_settled_report (laid A s) book p;
    reports_name_the_lowest_lacking = λ p q k pb. report_names_lowest_lacking (laid A s) book p q k;
    ghosts_hold_own_sum_or_total = ghosts_hold;
    enough_circles_settle_all_boards = λ cs rest e full enough.
        four_circles_an_edge_settle_all_boards cs rest e full (omega arith);
    tally_counts_turns = turns_counted A s run;
    tally_counts_losses = losses_counted A s run;
  }

-- where each accepted scene's laid plan keeps the laws
pub every_run_keeps_the_promise : {M : Type 0} (A : Algebra M) → Lawful A
    → ((s : Scene) → Sound s → (P : Plan A) × OfScene P s) → EveryRunKeepsThePromise M A
every_run_keeps_the_promise A law plans s ok ts m book l run =
    let (P, tie) = plans s ok in
    run_keeps_promise A law s P tie ts m book l run
