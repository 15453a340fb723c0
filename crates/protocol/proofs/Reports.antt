-- A report by any counts: settled exactly if the board has all its items, or else the lowest board whose items lack.
use Rattle.std.proofs.Common.{◌≡◌, ℕ, ◌<◌, ◌≤◌, ltb, refl, inl, inr, arith}
use Rattle.std.proofs.lemmas.Bool.{cases_lt, lt-ltb, le-ltb, ltb-true}
use Rattle.plan.specs.Links.{Shape, items}
use Rattle.forest.specs.Forest.{lowest}
use Rattle.protocol.specs.declared.tally.Report.TheVariants.{Settled, Awaits}
use Rattle.protocol.specs.Books.{lacks, HasAll, report_by}
use Rattle.forest.proofs.Lowest.{lowest_passes, lowest_first}

module _ (S : Shape) (count : ℕ → ℕ → ℕ) (p : ℕ) where
  abbrev first_lacking : ℕ
  first_lacking = lowest (λ r. ltb 0 (lacks S count p r)) S.boards

  pub settled_report_has_all : report_by S count p ≡ Settled → HasAll S count p
  settled_report_has_all h q qb = elim (cases_lt (count q p) (items S q p)) [
    | inr g ↦ g
    | inl l ↦
        let low : first_lacking ≤ q = lowest_first _ S.boards q qb (lt-ltb 0 (lacks S count p q) (omega arith)) in
        let awaits = rw (lt-ltb first_lacking S.boards (omega arith)) at h in
        absurd (cc)
  ]

  pub has_all_settled_report : HasAll S count p → report_by S count p ≡ Settled
  has_all_settled_report h = elim (cases_lt first_lacking S.boards) [
    | inl l ↦
        let some = ltb-true 0 (lacks S count p first_lacking) (lowest_passes _ S.boards l) in
        absurd (omega (arith, some, h first_lacking l))
    | inr g ↦ rw (le-ltb first_lacking S.boards g)
  ]

  none_lacking_before : (r : ℕ) → r < first_lacking → first_lacking < S.boards → lacks S count p r ≡ 0
  none_lacking_before r before l = elim (cases_lt 0 (lacks S count p r)) [
    | inl some ↦
        let low : first_lacking ≤ r = lowest_first _ S.boards r (omega arith) (lt-ltb 0 (lacks S count p r) some) in
        absurd (omega arith)
    | inr none ↦ omega arith
  ]

  pub report_names_lowest_lacking : (q k : ℕ) → report_by S count p ≡ Awaits q k
      → (q < S.boards) × (k ≡ lacks S count p q) × (0 < k) × ((r : ℕ) → r < q → lacks S count p r ≡ 0)
  report_names_lowest_lacking q k h = elim (cases_lt first_lacking S.boards) [
    | inl l ↦
        let awaits = rw (lt-ltb first_lacking S.boards l) at h in
        let board : first_lacking ≡ q = cc in
        let items : lacks S count p first_lacking ≡ k = cc in
        let some = ltb-true 0 (lacks S count p first_lacking) (lowest_passes _ S.boards l) in
        rw (← board, ← items) (l, refl, some, λ r before. none_lacking_before r before l)
    | inr g ↦ let settled = rw (le-ltb first_lacking S.boards g) at h in absurd (cc)
  ]
