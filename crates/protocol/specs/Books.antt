-- The book: a count for each link, fed from the lanes alone; what a board lacks by such counts, and what a report
-- says.
use Rattle.std.specs.Prelude.{ℕ, ◌-◌, ◌<◌, ◌≤◌, Bool, true, false, cond, not, ◌&&◌, ltb, ◌==◌, nat_lt}
use Rattle.medium.specs.Lanes.{Lanes}
use Rattle.plan.specs.Links.{Shape, items}
use Rattle.forest.specs.Forest.{lowest}
use Rattle.protocol.specs.declared.tally.Report.{Report}
use Rattle.protocol.specs.declared.tally.Report.TheVariants.{Settled, Awaits}
use Rattle.protocol.specs.Frames.{brings, count_after}

abbrev pub Book : Type 0
Book = ℕ → ℕ → ℕ

abbrev pub blank : Book
blank p q = 0

-- an accepted turn of p feeds the book the frames that wait for p as the turn begins
abbrev pub fed : Shape → ℕ → Lanes → Book → Book
fed P p lane book a b = cond (b == p && (nat_lt a P.boards && not (a == p)))
    (count_after (brings (items P a b)) (book a b) (lane a b))
    (book a b)

-- how many items board p lacks from q, by counts of accepted items
abbrev pub lacks : Shape → (ℕ → ℕ → ℕ) → ℕ → ℕ → ℕ
lacks P count p q = items P q p - count q p

-- board p lacks nothing
abbrev pub HasAll : Shape → (ℕ → ℕ → ℕ) → ℕ → Type 0
HasAll P count p = (q : ℕ) → q < P.boards → items P q p ≤ count q p

-- the lowest board from which p lacks items, and how many; or else settled
abbrev pub report_by : Shape → (ℕ → ℕ → ℕ) → ℕ → Report
report_by P count p =
    let q = lowest (λ r. ltb 0 (lacks P count p r)) P.boards in
    cond (nat_lt q P.boards) (Awaits q (lacks P count p q)) Settled

abbrev pub is_settled : Report → Bool
is_settled Settled = true
is_settled (Awaits board items) = false

-- the lowest board that is not reported settled, or as many as there are boards
abbrev pub lowest_unsettled : Shape → (ℕ → ℕ → ℕ) → ℕ
lowest_unsettled P count = lowest (λ p. not (is_settled (report_by P count p))) P.boards
