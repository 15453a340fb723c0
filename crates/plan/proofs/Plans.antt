-- What the rules of a plan give.
use Rattle.std.proofs.Common.{◌≡◌, ℕ, ◌+◌, ◌-◌, ◌*◌, ◌<◌, ◌≤◌, true, eqb, ltb, leb, List, [], ◌∷◌}
use Rattle.std.proofs.Common.{length, get_or, take, drop, filter, sym, refl, ap, ◌∙◌, arith}
use Rattle.std.specs.List.{All, AllPairs, AllByRecursion}
use Rattle.std.specs.List.Sorted.{IsNonDecreasingBy}
use Rattle.std.proofs.lemmas.List.Elements.{All-filter, filter_passes, recursion_from_All}
use Rattle.std.proofs.lemmas.List.Kept.{AllPairs-filter}
use Rattle.std.proofs.lemmas.Bool.{and_parts, ltb-true, leb-true, eqb-true}
use Rattle.std.proofs.lemmas.Bool.Decides.{nat_tests}
use Rattle.plan.specs.declared.records.CopyRecord.{CopyRecord}
use Rattle.plan.specs.declared.records.Edge.{Edge}
use Rattle.plan.specs.Links.{no_copy, no_edge, joins, edges_between}
use Rattle.plan.specs.Sound.{each, copy_before, edge_before, copy_fits, edge_fits}
use Rattle.plan.specs.Sound.{boards_fit, sound_copies, sound_edges, sound_plan}
use Rattle.plan.specs.Starts.{link_number, edges_on, edges_before, Starts, copies_on, copies_before}
use Rattle.plan.proofs.Counting.{before_more}
use Rattle.plan.proofs.Orders.{pairs_from_rising, pairs_weaker, non_decreasing}
use Rattle.plan.proofs.Orders.{all_from_each, few_keys, same_kept, part_at, part_within}

-- e is an edge from leaf board p to root board q
pub record Between (boards : ℕ) (copies : List CopyRecord) (p q : ℕ) (e : Edge) : Type 0 where
  pub from_is : e.from ≡ p
  pub to_is : e.to ≡ q
  pub from_below : p < boards
  pub to_below : q < boards
  pub apart : p ≡ q → ⊥
  pub vertex_below : e.vertex < 1024
  pub leaf_below : e.leaf < length copies
  pub leaf_board : (get_or copies e.leaf no_copy).board ≡ p
  pub leaf_vertex : (get_or copies e.leaf no_copy).vertex ≡ e.vertex
  pub root_below : e.root < length copies
  pub root_board : (get_or copies e.root no_copy).board ≡ q
  pub root_vertex : (get_or copies e.root no_copy).vertex ≡ e.vertex

-- what holds of each record that fits
abbrev CopyLow : ℕ → CopyRecord → Type 0
CopyLow boards c = (c.board < boards) × (c.vertex < 1024)

abbrev EdgeLow : Edge → Type 0
EdgeLow e = (e.from < 8) × (e.to < 8) × (e.vertex < 1024)

-- a number that rises with the order of copies, and one with that of edges
abbrev copy_key : CopyRecord → ℕ
copy_key c = 1024 * c.board + c.vertex

abbrev edge_key : Edge → ℕ
edge_key e = 1024 * link_number e + e.vertex

copy_key_rises : (c d : CopyRecord) → c.vertex < 1024 → copy_before c d ≡ true → copy_key c < copy_key d
copy_key_rises c d b h = grind (arith, nat_tests)

edge_key_rises : (e f : Edge) → e.vertex < 1024 → e.to < 8 → edge_before e f ≡ true → edge_key e < edge_key f
edge_key_rises e f b t h = grind (arith, nat_tests)

same_link : (e : Edge) (p q : ℕ) → e.to < 8 → q < 8 → joins p q e ≡ eqb (link_number e) (8 * p + q)
same_link e p q t b = grind (arith, nat_tests)

-- one kept edge has its boards and its vertex on both copies
edge_is : (boards : ℕ) (copies : List CopyRecord) (e : Edge) → edge_fits boards copies e ≡ true
    → Between boards copies e.from e.to e
edge_is boards copies e h = record {
  from_is = refl;
  to_is = refl;
  from_below = grind (arith, nat_tests);
  to_below = grind (arith, nat_tests);
  apart = grind (arith, nat_tests);
  vertex_below = grind (arith, nat_tests);
  leaf_below = grind (arith, nat_tests);
  leaf_board = grind (arith, nat_tests);
  leaf_vertex = grind (arith, nat_tests);
  root_below = grind (arith, nat_tests);
  root_board = grind (arith, nat_tests);
  root_vertex = grind (arith, nat_tests);
}

moved : (boards : ℕ) (copies : List CopyRecord) (p q : ℕ) (e : Edge) → Between boards copies e.from e.to e
    → e.from ≡ p → e.to ≡ q → Between boards copies p q e
moved boards copies p q e b f t = record {
  from_is = f;
  to_is = t;
  from_below = omega (arith, b.from_below);
  to_below = omega (arith, b.to_below);
  apart = λ s. b.apart (f ∙ s ∙ sym t);
  vertex_below = b.vertex_below;
  leaf_below = b.leaf_below;
  leaf_board = b.leaf_board ∙ f;
  leaf_vertex = b.leaf_vertex;
  root_below = b.root_below;
  root_board = b.root_board ∙ t;
  root_vertex = b.root_vertex;
}

module _
    (boards : ℕ) (copies : List CopyRecord) (edges : List Edge) (sound : sound_plan boards copies edges ≡ true) where
  boards_part : boards_fit boards ≡ true
  boards_part = (and_parts (boards_fit boards) _ sound).0

  copies_part : sound_copies boards copies ≡ true
  copies_part = (and_parts (sound_copies boards copies) _ (and_parts (boards_fit boards) _ sound).1).0

  edges_part : sound_edges boards copies edges ≡ true
  edges_part = (and_parts (sound_copies boards copies) _ (and_parts (boards_fit boards) _ sound).1).1

  pub boards_within : (1 ≤ boards) × (boards ≤ 8)
  boards_within = let (a, b) = and_parts (leb 1 boards) _ boards_part in (leb-true _ _ a, leb-true _ _ b)

  -- ---- copies
  copies_fit : All (CopyLow boards) copies
  copies_fit k d l =
      let fits = all_from_each (copy_fits boards) copies (and_parts (each (copy_fits boards) copies) _ copies_part).0 in
      let (b, v) = and_parts (ltb (get_or copies k d).board boards) _ (fits k d l) in
      (ltb-true _ _ b, ltb-true _ _ v)

  pub copies_below : AllByRecursion (λ c. (c.board < boards) × (c.vertex < 1024)) copies
  copies_below = recursion_from_All (CopyLow boards) copies copies_fit

  copies_ordered : AllPairs (λ c d. copy_key c < copy_key d) copies
  copies_ordered =
      pairs_from_rising (CopyLow boards) (λ c d. copy_key c < copy_key d) copy_before
      (λ c d p q h. copy_key_rises c d p.1 h) (λ c d e h k. omega arith) copies copies_fit
      (and_parts (each (copy_fits boards) copies) _ copies_part).1

  pub few_copies : length copies ≤ 8192
  few_copies =
      few_keys copy_key 8192 copies copies_ordered
      (λ k d l. let w = boards_within in let h = copies_fit k d l in omega (arith, h.0, h.1))

  pub boards_rise : IsNonDecreasingBy (λ (c : CopyRecord). c.board) copies
  boards_rise =
      non_decreasing (λ c. c.board) copies
      (pairs_weaker (CopyLow boards) (λ c d. copy_key c < copy_key d)
      (λ c d. c.board ≤ d.board) (λ c d p q h. omega (arith, q.1)) copies copies_fit copies_ordered)

  -- the copies of a board stand together, behind those of lower boards
  pub board_part : (p : ℕ)
      → take (length (copies_on copies p)) (drop (copies_before copies p) copies) ≡ copies_on copies p
  board_part p = part_at (λ c. c.board) p copies boards_rise

  pub board_part_within : (p : ℕ) → copies_before copies p + length (copies_on copies p) ≤ length copies
  board_part_within p = part_within (λ c. c.board) p copies boards_rise

  -- ---- edges
  pub edges_are : All (λ e. Between boards copies e.from e.to e) edges
  edges_are k d l =
      edge_is boards copies _ (all_from_each (edge_fits boards copies) edges
      (and_parts (each (edge_fits boards copies) edges) _ edges_part).0 k d l)

  edges_low : All EdgeLow edges
  edges_low k d l =
      let w = boards_within in
      let b = edges_are k d l in
      (omega (arith, b.from_below), omega (arith, b.to_below), b.vertex_below)

  edges_ordered : AllPairs (λ e f. edge_key e < edge_key f) edges
  edges_ordered =
      pairs_from_rising EdgeLow (λ e f. edge_key e < edge_key f) edge_before
      (λ e f p q h. edge_key_rises e f p.2 p.1 h) (λ e f g h k. omega arith) edges edges_low
      (and_parts (each (edge_fits boards copies) edges) _ edges_part).1

  pub few_edges : length edges ≤ 65536
  few_edges =
      few_keys edge_key 65536 edges edges_ordered
      (λ k d l. let h = edges_low k d l in omega (arith, h.0, h.1, h.2))

  pub links_rise : IsNonDecreasingBy link_number edges
  links_rise =
      non_decreasing link_number edges
      (pairs_weaker EdgeLow (λ e f. edge_key e < edge_key f)
      (λ e f. link_number e ≤ link_number f) (λ e f p q h. omega (arith, q.2)) edges edges_low edges_ordered)

  -- ---- the edges between two boards
  module _ (p q : ℕ) where
    pub between_are : All (Between boards copies p q) (edges_between edges p q)
    between_are m d l =
        let (f, t) = and_parts (eqb (get_or (edges_between edges p q) m d).from p) _
        (filter_passes (joins p q) edges m d l) in
        moved boards copies p q _
        (All-filter (joins p q) (λ e. Between boards copies e.from e.to e) edges edges_are m d l)
        (eqb-true _ _ f) (eqb-true _ _ t)

    pub between_at : (m : ℕ) → m < length (edges_between edges p q)
        → Between boards copies p q (get_or (edges_between edges p q) m no_edge)
    between_at m l = between_are m no_edge l

    between_ordered : AllPairs (λ e f. e.vertex < f.vertex) (edges_between edges p q)
    between_ordered =
        pairs_weaker (Between boards copies p q) (λ e f. edge_key e < edge_key f) (λ e f. e.vertex < f.vertex)
        (λ e f b d h. omega (arith, b.from_is, b.to_is, d.from_is, d.to_is)) (edges_between edges p q) between_are
        (AllPairs-filter (λ e f. edge_key e < edge_key f) (joins p q) edges edges_ordered)

    pub few_between : length (edges_between edges p q) ≤ 1024
    few_between =
        few_keys (λ e. e.vertex) 1024 (edges_between edges p q) between_ordered
        (λ m d l. (between_are m d l).vertex_below)

    -- none where no edge can be
    pub between_none : ((e : Edge) → Between boards copies p q e → ⊥) → edges_between edges p q ≡ []
    between_none no_such = empty (edges_between edges p q) between_are
      where
        empty : (es : List Edge) → All (Between boards copies p q) es → es ≡ []
        empty [] h = refl
        empty (e ∷ es) h = absurd (no_such e (h 0 e (omega arith)))

    pub between_past_from : boards ≤ p → edges_between edges p q ≡ []
    between_past_from l = between_none (λ e b. omega (arith, b.from_below))

    pub between_past_to : boards ≤ q → edges_between edges p q ≡ []
    between_past_to l = between_none (λ e b. omega (arith, b.to_below))

    -- they are the edges of a link
    between_is : q < 8 → edges_between edges p q ≡ filter (λ e. eqb (link_number e) (8 * p + q)) edges
    between_is l =
        same_kept (joins p q) _ edges (λ k d b. same_link (get_or edges k d) p q (edges_low k d b).1 l)

  -- a link's edges go from its start to the next, in a table of the starts
  module _ (starts : List ℕ) (right : Starts starts edges) (x : ℕ) (low : x < 64) where
    start : get_or starts x 0 ≡ edges_before edges x
    start = right x (omega arith)

    next : get_or starts (x + 1) 0 ≡ edges_before edges x + edges_on edges x
    next = right (x + 1) (omega arith) ∙ before_more edges x

    pub link_bounds : (get_or starts x 0 ≤ get_or starts (x + 1) 0) × (get_or starts (x + 1) 0 ≤ length edges)
    link_bounds =
        let all = part_within link_number x edges links_rise in
        (omega (arith, start, next), omega (arith, all, next))

    pub link_part : (p q : ℕ) → q < 8 → x ≡ 8 * p + q
        → take (get_or starts (x + 1) 0 - get_or starts x 0) (drop (get_or starts x 0) edges) ≡ edges_between edges p q
    link_part p q l e =
        let size : get_or starts (x + 1) 0 - get_or starts x 0 ≡ edges_on edges x = omega (arith, start, next) in
        ap (λ n. take n (drop (get_or starts x 0) edges)) size
        ∙ ap (λ n. take (edges_on edges x) (drop n edges)) start
        ∙ part_at link_number x edges links_rise
        ∙ ap (λ y. filter (λ f. eqb (link_number f) y) edges) e
        ∙ sym (between_is p q l)
