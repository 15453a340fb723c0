-- The table of link starts.
use Rattle.std.proofs.Common.{◌≡◌, ◌≢◌, ℕ, ◌+◌, ◌-◌, ◌<◌, ◌≤◌, eqb, ltb, true, false, List, length, get_or, ap, ◌∙◌, subst, inl, inr, add-one, arith}
use Rattle.std.specs.Prelude.{Option, Some, None, MatchOption, unwrap_or}
use Rattle.std.proofs.lemmas.Bool.{both_ways, cases_eq, cases_order, eq-eqb, eqb-true, lt-ltb, le-ltb}
use Rattle.std.specs.List.Sorted.{IsNonDecreasingBy}
use Rattle.plan.specs.declared.records.Edge.{Edge}
use Rattle.plan.specs.Links.{no_edge}
use Rattle.plan.specs.Starts.{link_number, edges_on, edges_before}
use Rattle.plan.proofs.Orders.{count_more, none_at, part_within}
use Rattle.plan.proofs.Searches.{point_counts}

pub before_more : (edges : List Edge) (x : ℕ) → edges_before edges (x + 1) ≡ edges_before edges x + edges_on edges x
before_more edges x = ap (edges_before edges) (add-one x) ∙ count_more link_number x edges

-- a link's edges end at the first record from its start on that is of another link, or at the last
pub ends_at : (edges : List Edge) → IsNonDecreasingBy link_number edges → (x start end : ℕ)
    → start ≡ edges_before edges x → start ≤ end → end ≤ length edges
    → ((k : ℕ) → start ≤ k → k < end → (d : Edge) → link_number (get_or edges k d) ≡ x)
    → (end < length edges → (d : Edge) → link_number (get_or edges end d) ≢ x)
    → end ≡ edges_before edges (x + 1)
ends_at edges rises x start end is le within on off = elim (cases_order start end) [
  | inl e ↦
      let none = none_at link_number x edges rises no_edge (λ b. subst
      (λ n. n < length edges → link_number (get_or edges n no_edge) ≢ x) (omega arith) (λ l. off l no_edge) b) in
      omega (arith, is, none, before_more edges x)
  | inr o ↦ elim o [
    | inl l ↦ point_counts (λ e. ltb (link_number e) (x + 1)) edges end (
      (λ k d a b. lt-ltb _ (x + 1) (omega (
        arith,
        rises k (end - 1) d (omega arith) (omega arith),
        on (end - 1) (omega arith) (omega arith) d,
      ))),
      (λ k d a b. le-ltb _ (x + 1) (above k d a b l)),
    ) within
    | inr g ↦ absurd (omega arith)
  ]
]
  where
    above : (k : ℕ) (d : Edge) → end ≤ k → k < length edges → start < end → x + 1 ≤ link_number (get_or edges k d)
    above k d a b l =
        let at = on (end - 1) (omega arith) (omega arith) d in
        let next = rises (end - 1) end d (omega arith) (omega arith) in
        let later = rises end k d a b in
        elim (cases_eq (link_number (get_or edges end d)) x) [
          | inl e ↦ absurd (off (omega arith) d e)
          | inr n ↦ grind (arith, at, next, later, n)
        ]

pub found_end : (edges : List Edge) → IsNonDecreasingBy link_number edges → (x start : ℕ) (r : Option ℕ)
    → start ≡ edges_before edges x
    → MatchOption r
    ((k : ℕ) → start ≤ k → k < length edges → (d : Edge) → eqb (link_number (get_or edges k d)) x ≡ true)
    (λ i. (start ≤ i) × (i < length edges) × ((d : Edge) → eqb (link_number (get_or edges i d)) x ≡ false)
    × ((k : ℕ) → start ≤ k → k < i → (d : Edge) → eqb (link_number (get_or edges k d)) x ≡ true))
    → unwrap_or r (length edges) ≡ edges_before edges (x + 1)
found_end edges rises x start None is all =
    let within = part_within link_number x edges rises in
    ends_at edges rises x start (length edges) is (omega (arith, is, within)) (omega arith)
    (λ k a b d. eqb-true _ x (all k a b d)) (λ l. absurd (omega arith))
found_end edges rises x start (Some i) is (le, l, off, on) =
    ends_at edges rises x start i is le (omega arith) (λ k a b d. eqb-true _ x (on k a b d))
    (λ _ d e. both_ways _ (off d) (eq-eqb _ x e))
