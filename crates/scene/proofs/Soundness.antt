-- What follows for a scene from its bytes being admitted.
use Rattle.std.proofs.Common.{◌≡◌, ℕ, ◌+◌, ◌-◌, ◌*◌, ◌%◌, ◌<◌, ◌≤◌, true, ◌||◌, eqb, ltb, List, ◌++◌, map, length}
use Rattle.std.proofs.Common.{sym, refl, ◌∙◌, inl, inr, arith}
use Rattle.std.specs.List.{range_with_len, flat_map, AllByRecursion}
use Rattle.std.proofs.lemmas.List.FromFn.{length-map-range_with_len}
use Rattle.std.proofs.ByRecursion.{All-map}
use Rattle.std.proofs.lemmas.Bool.{and_parts, leb-true, ltb-true, eqb-true, eqb-false, not-true, and_from, or_left}
use Rattle.std.proofs.lemmas.Bool.{or_right, not_from_false, cases_lt, le-leb, lt-ltb, eq-eqb, ne_eqb}
use Rattle.std.proofs.lemmas.Bool.Decides.{nat_tests}
use Rattle.scene.specs.declared.fault.RecordFault.{RecordFault}
use Rattle.scene.specs.Cells.{Cell, Sound}
use Rattle.scene.specs.Layout.{byte_at, number_at, word_at, words_at, corners_of, cell_at, cell_place}
use Rattle.scene.specs.Layout.{cell_size, corner_place, parts_place, scene_of}
use Rattle.scene.specs.declared.head.Head.{Head}
use Rattle.scene.specs.Rules.{Rule, head_of, header_rules, start_rules, corner_rule, pair_rule}
use Rattle.scene.specs.Rules.{pair_rules, word_rule, cell_rules}
use Rattle.scene.specs.Rules.{cell_record, end_rules, in_record, body_rules, all_hold, admits}
use Rattle.scene.proofs.Counted.{all_counted}
use Rattle.scene.proofs.Holding.{RuleHolds, each_kept, kept_each, hold_append, append_hold, hold_record, hold_at}
use Rattle.scene.proofs.Holding.{at_hold}

-- what holds of each number below n holds of each element made from one
pub all_made : {X : Type 0} (P : X → Type 0) (f : ℕ → X) (n : ℕ) → ((i : ℕ) → i < n → P (f i))
    → AllByRecursion P (map f (range_with_len 0 n))
all_made P f n h = All-map P f (range_with_len 0 n) (all_counted (λ i. P (f i)) 0 n (λ i l m. h i (omega arith)))

pub made_length : {X : Type 0} (f : ℕ → X) (n : ℕ) → length (map f (range_with_len 0 n)) ≡ n
made_length f n = length-map-range_with_len f 0 n

-- every cell has as many corners as the bytes' version says
pub corners_count : (b : List ℕ) → AllByRecursion (λ c. length c.corners ≡ corners_of b) (scene_of b).cells
corners_count b =
    let k = corners_of b in
    all_made (λ c. length c.corners ≡ k) (λ i. cell_at k b (cell_place k i)) (number_at b 8)
    (λ i l. made_length (λ j. number_at b (corner_place (cell_place k i) j)) k)

-- what the rules of a cell say, one by one
pub record CellKept (h : Head) (b : List ℕ) (at : ℕ) : Type 0 where
  pub room : at + cell_size h.corners ≤ length b
  pub mark : (byte_at b at ≡ 0x43) × (byte_at b (at + 1) ≡ 0x45)
  pub board : byte_at b (at + 2) < h.boards
  pub blank : byte_at b (at + 3) ≡ 0
  pub corners : (i : ℕ) → i < h.corners → number_at b (corner_place at i) < h.vertices
  pub apart : (i j : ℕ) → i < j → j < h.corners
      → number_at b (corner_place at i) ≡ number_at b (corner_place at j) → ⊥
  pub unused : (w : ℕ) → w < 3 * h.corners → h.used ≤ w % 3 → word_at b (parts_place h.corners at + 4 * w) ≡ 0

module _ (h : Head) (b : List ℕ) (at : ℕ) where
  abbrev on_vertices : List (Rule RecordFault)
  on_vertices = flat_map (corner_rule h b at) (range_with_len 0 h.corners)

  abbrev all_apart : List (Rule RecordFault)
  all_apart = flat_map (pair_rules h b at) (range_with_len 0 h.corners)

  abbrev words_unused : List (Rule RecordFault)
  words_unused = flat_map (word_rule h b at) (range_with_len 0 (3 * h.corners))

  pub cell_kept : all_hold (cell_rules h b at) ≡ true → CellKept h b at
  cell_kept ok =
      let k = h.corners in
      let p0 = and_parts _ _ ok in
      let p1 = and_parts _ _ p0.1 in
      let p2 = and_parts _ _ p1.1 in
      let p3 = and_parts _ _ p2.1 in
      let q = hold_append on_vertices (all_apart ++ words_unused) p3.1 in
      let r = hold_append all_apart words_unused q.1 in
      let m = and_parts _ _ p1.0 in
      record {
        room = leb-true _ _ p0.0;
        mark = (eqb-true _ _ m.0, eqb-true _ _ m.1);
        board = ltb-true _ _ p2.0;
        blank = eqb-true _ _ p3.0;
        corners = λ i l.
            let e = hold_at (corner_rule h b at) 0 k q.0 i (omega arith) (omega arith) in
            ltb-true _ _ (and_parts _ true e).0;
        apart = λ i j l m.
            let es = hold_at (pair_rules h b at) 0 k r.0 i (omega arith) (omega arith) in
            let e = hold_at (pair_rule b at i) (i + 1) (k - (i + 1)) es j (omega arith) (omega arith) in
            eqb-false _ _ (not-true _ (and_parts _ true e).0);
        unused = λ w l past.
            let e = hold_at (word_rule h b at) 0 (3 * k) r.1 w (omega arith) (omega arith) in
            grind (arith, nat_tests);
      }

  word_holds : (w : ℕ) → w < 3 * h.corners → CellKept h b at
      → (ltb (w % 3) h.used || eqb (word_at b (parts_place h.corners at + 4 * w)) 0) ≡ true
  word_holds w l kept =
      elim (cases_lt (w % 3) h.used) [
        | inl m ↦ or_left _ _ (lt-ltb _ _ m)
        | inr m ↦ or_right (ltb (w % 3) h.used) _ (eq-eqb _ _ (kept.unused w l m))
      ]

  pub kept_cell : CellKept h b at → all_hold (cell_rules h b at) ≡ true
  kept_cell kept =
      let k = h.corners in
      let starts = kept_each (start_rules h b at) (
        le-leb _ _ kept.room,
        (
          and_from _ _ (eq-eqb _ _ kept.mark.0) (eq-eqb _ _ kept.mark.1),
          (lt-ltb _ _ kept.board, (eq-eqb _ _ kept.blank, tt)),
        ),
      ) in
      let corners = at_hold (corner_rule h b at) 0 k
      (λ i l m. and_from _ true (lt-ltb _ _ (kept.corners i (omega arith))) refl) in
      let apart = at_hold (pair_rules h b at) 0 k
      (λ i l m. at_hold (pair_rule b at i) (i + 1) (k - (i + 1))
      (λ j n o.
      let differ = ne_eqb _ _ (kept.apart i j (omega arith) (omega arith)) in
      and_from _ true (not_from_false _ differ) refl)) in
      let words = at_hold (word_rule h b at) 0 (3 * k)
      (λ w l m. and_from _ true (word_holds w (omega arith) kept) refl) in
      append_hold (start_rules h b at) (on_vertices ++ (all_apart ++ words_unused)) starts
      (append_hold on_vertices (all_apart ++ words_unused) corners (append_hold all_apart words_unused apart words))

module _ (b : List ℕ) (ok : admits b ≡ true) where
  parts : (all_hold (in_record 0 (header_rules b)) ≡ true) × (all_hold (body_rules (head_of b) b) ≡ true)
  parts = hold_append (in_record 0 (header_rules b)) (body_rules (head_of b) b) ok

  pub header_kept : AllByRecursion RuleHolds (header_rules b)
  header_kept = each_kept (header_rules b) (sym (hold_record 0 (header_rules b)) ∙ parts.0)

  body : (all_hold (flat_map (cell_record (head_of b) b) (range_with_len 0 (number_at b 8))) ≡ true)
      × (all_hold (in_record (number_at b 8 + 1) (end_rules b (cell_place (corners_of b) (number_at b 8)))) ≡ true)
  body =
      hold_append (flat_map (cell_record (head_of b) b) (range_with_len 0 (number_at b 8)))
      (in_record (number_at b 8 + 1) (end_rules b (cell_place (corners_of b) (number_at b 8))))
      parts.1

  pub end_kept : AllByRecursion RuleHolds (end_rules b (cell_place (corners_of b) (number_at b 8)))
  end_kept =
      let rules = end_rules b (cell_place (corners_of b) (number_at b 8)) in
      each_kept rules (sym (hold_record (number_at b 8 + 1) rules) ∙ body.1)

  pub cell_holds : (n : ℕ) → n < number_at b 8
      → all_hold (cell_rules (head_of b) b (cell_place (corners_of b) n)) ≡ true
  cell_holds n h =
      sym (hold_record (n + 1) (cell_rules (head_of b) b (cell_place (corners_of b) n)))
      ∙ hold_at (cell_record (head_of b) b) 0 (number_at b 8) body.0 n (omega arith) (omega arith)

  pub cell_fine : (n : ℕ) → n < number_at b 8 → CellKept (head_of b) b (cell_place (corners_of b) n)
  cell_fine n h = cell_kept (head_of b) b (cell_place (corners_of b) n) (cell_holds n h)

  pub sound : Sound (scene_of b)
  sound =
      let k = corners_of b in
      let n = number_at b 8 in
      let kept = header_kept in
      let tail = kept.1.1.1.1 in
      let boards = and_parts _ _ tail.0 in
      let cell : ℕ → Cell = λ i. cell_at k b (cell_place k i) in
      record {
        kind_known = kept.1.1.1.0;
        some_board = leb-true _ _ boards.0;
        few_boards = leb-true _ _ boards.1;
        few_layers = leb-true _ _ tail.1.0;
        few_vertices = leb-true _ _ tail.1.1.0;
        few_cells = rw (made_length cell n) (leb-true _ _ tail.1.1.1.0);
        owned = all_made (λ c. c.board < byte_at b 4) cell n (λ i l. (cell_fine i l).board);
        on_vertices = all_made (λ c. AllByRecursion (λ v. v < number_at b 6) c.corners) cell n
            (λ i l. all_made (λ v. v < number_at b 6) (λ j. number_at b (corner_place (cell_place k i) j)) k
            (λ j m. (cell_fine i l).corners j m));
        as_many_parts = all_made (λ c. length c.parts ≡ length c.corners) cell n
            (λ i l. made_length (λ j. words_at b (parts_place k (cell_place k i) + 12 * j)) k
            ∙ sym (made_length (λ j. number_at b (corner_place (cell_place k i) j)) k));
      }
