-- What taking all lanes of a board amounts to: the counts, copies and lanes that a turn's rules ask for.
use Rattle.std.proofs.Common.{◌≡◌, ℕ, zero, suc, ◌+◌, ◌-◌, ◌*◌, ◌<◌, ◌≤◌, true, false, ◌≢◌, ◌⊎◌, List, [], length}
use Rattle.std.proofs.Common.{get_or, sym, refl, ap, ◌∙◌, inl, inr, add_comm, arith}
use Rattle.std.proofs.lemmas.List.{get_or-set_same, get_or-set_other, length-set}
use Rattle.std.proofs.lemmas.Bool.{cases_eq, cases_lt, eq-eqb, ne_eqb, lt-ltb, le-ltb}
use Rattle.element.specs.Algebra.{Algebra}
use Rattle.medium.specs.Lanes.{is_lane}
use Rattle.plan.specs.Links.{Shape, shape, items, edges_between}
use Rattle.plan.specs.declared.records.Edge.{Edge}
use Rattle.protocol.specs.declared.table.Link.{Link}
use Rattle.protocol.specs.Frames.{brings, tells_of, count_after, some_item}
use Rattle.protocol.specs.Turns.{sum_others, copies_after, copies_after_all}
use Rattle.protocol.specs.Runs.{no_link, link_at}
use Rattle.protocol.specs.Steps.{Fit, Held, Received, emptied, frames_step, lane_step, lanes_step}
use Rattle.protocol.proofs.Receiving.{view, Taken, taken}
use Rattle.protocol.proofs.Rows.{count_after_grows}

pub lane_below : (a b : ℕ) → a < 8 → b < 8 → is_lane a b ≡ true
lane_below a b l m = rw (lt-ltb a 8 l, lt-ltb b 8 m) refl

-- a link's record where both boards are below 8, and where one is not
pub link_here : (links : List Link) (a b : ℕ) → a < 8 → b < 8 → link_at links a b ≡ get_or links (8 * a + b) no_link
link_here links a b l m = rw (lane_below a b l m) refl

-- two tables that agree on all lanes but some agree there by boards
pub same_link : (links links' : List Link) (g : Link → ℕ) (a b : ℕ)
    → (a < 8 → b < 8 → g (get_or links' (8 * a + b) no_link) ≡ g (get_or links (8 * a + b) no_link))
    → g (link_at links' a b) ≡ g (link_at links a b)
same_link links links' g a b h = elim (cases_lt a 8) [
  | inl l ↦ elim (cases_lt b 8) [
    | inl m ↦ rw (lane_below a b l m) (h l m)
    | inr m ↦ rw (lt-ltb a 8 l, le-ltb b 8 m) refl
  ]
  | inr l ↦ rw (le-ltb a 8 l) refl
]

pub sum_others_same : (p k : ℕ) (f g : ℕ → ℕ) → ((q : ℕ) → q < k → q ≢ p → f q ≡ g q)
    → sum_others p k f ≡ sum_others p k g
sum_others_same p zero f g h = refl
sum_others_same p (suc k) f g h =
    let before = sum_others_same p k f g (λ q l d. h q (omega arith) d) in
    elim (cases_eq k p) [
      | inl e ↦ rw (eq-eqb k p e) (ap (λ x. x + 0) before)
      | inr d ↦ rw (ne_eqb k p d, before, h k (omega arith) d) refl
    ]

module _ {M : Type 0} (A : Algebra M) (boards : ℕ) (edges : List Edge) (p : ℕ) (r : Received M) where
  abbrev P : Shape
  P = shape boards edges

  abbrev links : List Link
  links = r.held.links

  abbrev j : ℕ → ℕ → ℕ
  j a b = (link_at links a b).j

  -- what board p has received once the lanes of the boards below k are empty
  pub record Below (k : ℕ) (r' : Received M) : Type 0 where
    pub long : length r'.held.links ≡ 64
    pub i_own : (q : ℕ) → q < k → q ≢ p
        → (link_at r'.held.links p q).i ≡ count_after (tells_of (items P p q)) (link_at links p q).i (r.lanes q p)
    pub i_rest : (a b : ℕ) → (a ≢ p) ⊎ ((b ≡ p) ⊎ (k ≤ b)) → (link_at r'.held.links a b).i ≡ (link_at links a b).i
    pub j_own : (q : ℕ) → q < k → q ≢ p
        → (link_at r'.held.links q p).j ≡ count_after (brings (items P q p)) (j q p) (r.lanes q p)
    pub j_rest : (a b : ℕ) → (b ≢ p) ⊎ ((a ≡ p) ⊎ (k ≤ a)) → (link_at r'.held.links a b).j ≡ j a b
    pub copied : view A r'.held.copies ≡ copies_after_all A P p k j r.lanes (view A r.held.copies)
    pub as_many : length r'.held.copies ≡ length r.held.copies
    pub emptied_own : (q : ℕ) → q < k → q ≢ p → r'.lanes q p ≡ []
    pub lanes_rest : (a b : ℕ) → (b ≢ p) ⊎ ((a ≡ p) ⊎ (k ≤ a)) → r'.lanes a b ≡ r.lanes a b
    pub frames : r'.taken ≡ r.taken + sum_others p k (λ q. length (r.lanes q p))
    pub items_in : r'.held.accepted
        ≡ r.held.accepted + sum_others p k (λ q. (link_at r'.held.links q p).j - j q p)
    pub got_long : length r'.got ≡ 8
    pub got_own : (q : ℕ) → q < k → q ≢ p → get_or r'.got q false ≡ some_item (r.lanes q p)

  pub below_none : length links ≡ 64 → length r.got ≡ 8 → Below 0 r
  below_none long eight = record {
    long = long;
    i_own = λ q l d. absurd (omega arith);
    i_rest = λ a b h. refl;
    j_own = λ q l d. absurd (omega arith);
    j_rest = λ a b h. refl;
    copied = refl;
    as_many = refl;
    emptied_own = λ q l d. absurd (omega arith);
    lanes_rest = λ a b h. refl;
    frames = omega arith;
    items_in = omega arith;
    got_long = eight;
    got_own = λ q l d. absurd (omega arith);
  }

  module _ (k : ℕ) (r' : Received M) (v : Below k r') where
    -- the case of a place at or past k is that of one at or past suc k
    later : {X Y : Type 0} (a : ℕ) → X ⊎ (Y ⊎ (suc k ≤ a)) → X ⊎ (Y ⊎ (k ≤ a))
    later a h = elim h [ inl x ↦ inl x | inr y ↦ elim y [ inl z ↦ inr (inl z) | inr z ↦ inr (inr (omega arith)) ] ]

    -- p's own lane is not taken
    pub below_itself : k ≡ p → Below (suc k) r'
    below_itself e = record {
      long = v.long;
      i_own = λ q l d. v.i_own q (omega arith) d;
      i_rest = λ a b h. v.i_rest a b (later b h);
      j_own = λ q l d. v.j_own q (omega arith) d;
      j_rest = λ a b h. v.j_rest a b (later a h);
      copied = v.copied ∙ rw (eq-eqb k p e) refl;
      as_many = v.as_many;
      emptied_own = λ q l d. v.emptied_own q (omega arith) d;
      lanes_rest = λ a b h. v.lanes_rest a b (later a h);
      frames = rw (eq-eqb k p e) (omega (arith, v.frames));
      items_in = rw (eq-eqb k p e) (omega (arith, v.items_in));
      got_long = v.got_long;
      got_own = λ q l d. v.got_own q (omega arith) d;
    }

    module _ (kp : k ≢ p) (kb : k < 8) (pb : p < 8)
        (fit : Fit (edges_between edges k p) (edges_between edges p k) (length r.held.copies)) where
      abbrev h : Held M
      h = r'.held

      abbrev h'' : Held M
      h'' = frames_step A (edges_between edges k p) (edges_between edges p k) p k (r'.lanes k p) h

      t : Taken A boards edges p k (r'.lanes k p) h h''
      t = taken A boards edges p k (λ e. kp (omega arith)) (r'.lanes k p) h
          (omega (arith, v.long), omega (arith, v.long)) (rw v.as_many fit)

      same_frames : r'.lanes k p ≡ r.lanes k p
      same_frames = v.lanes_rest k p (inr (inr (omega arith)))

      i_at : (a b : ℕ) → (a ≡ p → b ≡ k → ⊥) → (link_at h''.links a b).i ≡ (link_at h.links a b).i
      i_at a b other = same_link h.links h''.links (λ (x : Link). x.i) a b
          (λ la lb. elim (cases_eq (8 * a + b) (8 * k + p)) [
            | inl e ↦ rw e (ap (λ (x : Link). x.i) t.brought)
            | inr d ↦ ap (λ (x : Link). x.i) (t.elsewhere (8 * a + b) (λ e. other (omega arith) (omega arith)) d)
          ])

      j_at : (a b : ℕ) → (a ≡ k → b ≡ p → ⊥) → (link_at h''.links a b).j ≡ (link_at h.links a b).j
      j_at a b other = same_link h.links h''.links (λ (x : Link). x.j) a b
          (λ la lb. elim (cases_eq (8 * a + b) (8 * p + k)) [
            | inl e ↦ rw e (ap (λ (x : Link). x.j) t.replies)
            | inr d ↦ ap (λ (x : Link). x.j) (t.elsewhere (8 * a + b) d (λ e. other (omega arith) (omega arith)))
          ])

      i_here : (link_at h''.links p k).i ≡ count_after (tells_of (items P p k)) (link_at links p k).i (r.lanes k p)
      i_here =
          ap (λ (x : Link). x.i) (link_here h''.links p k pb kb ∙ t.replies)
          ∙ ap (λ x. count_after (tells_of x) (get_or h.links (8 * p + k) no_link).i (r'.lanes k p))
          (add_comm (P.up k p) (P.up p k))
          ∙ ap (λ x. count_after (tells_of (items P p k)) x (r'.lanes k p))
          (ap (λ (x : Link). x.i) (sym (link_here h.links p k pb kb)) ∙ v.i_rest p k (inr (inr (omega arith))))
          ∙ ap (count_after (tells_of (items P p k)) (link_at links p k).i) same_frames

      before_j : (get_or h.links (8 * k + p) no_link).j ≡ j k p
      before_j = ap (λ (x : Link). x.j) (sym (link_here h.links k p kb pb)) ∙ v.j_rest k p
          (inr (inr (omega arith)))

      j_here : (link_at h''.links k p).j ≡ count_after (brings (items P k p)) (j k p) (r.lanes k p)
      j_here =
          ap (λ (x : Link). x.j) (link_here h''.links k p kb pb ∙ t.brought)
          ∙ ap (λ x. count_after (brings (items P k p)) x (r'.lanes k p)) before_j
          ∙ ap (count_after (brings (items P k p)) (j k p)) same_frames

      not_this_lane : (a b : ℕ) → (a ≡ k → b ≡ p → ⊥) → emptied k p r'.lanes a b ≡ r'.lanes a b
      not_this_lane a b other = elim (cases_eq a k) [
        | inl e ↦ rw (eq-eqb a k e, ne_eqb b p (other e)) refl
        | inr d ↦ rw (ne_eqb a k d) refl
      ]

      counted : h''.accepted ≡ r.held.accepted
          + (sum_others p k (λ q. (link_at h''.links q p).j - j q p) + ((link_at h''.links k p).j - j k p))
      counted =
          let same : sum_others p k (λ q. (link_at h''.links q p).j - j q p) ≡ sum_others p k
          (λ q. (link_at h.links q p).j - j q p) =
          sum_others_same p k _ _ (λ q l d. ap (λ x. x - j q p) (j_at q p (λ e _. omega arith))) in
          let grown : j k p ≤ count_after (brings (items P k p)) (j k p) (r.lanes k p) =
          count_after_grows (brings (items P k p)) (j k p) (r.lanes k p) in
          let more : h''.accepted + j k p ≡ h.accepted + count_after (brings (items P k p)) (j k p) (r.lanes k p) =
          ap (λ x. h''.accepted + x) (sym before_j) ∙ t.more
          ∙ ap (λ x. h.accepted + x) (ap (λ x. count_after (brings (items P k p)) x (r'.lanes k p)) before_j
          ∙ ap (count_after (brings (items P k p)) (j k p)) same_frames) in
          omega (arith, same, grown, more, j_here, v.items_in)

      pub below_more : Below (suc k) (lane_step A edges p k r')
      below_more = record {
        long = t.long ∙ v.long;
        i_own = λ q l d. elim (cases_eq q k) [
          | inl e ↦ rw e i_here
          | inr c ↦ i_at p q (λ _ e. c e) ∙ v.i_own q (omega arith) d
        ];
        i_rest = λ a b x. i_at a b (λ e f. elim x [
          | inl y ↦ y e
          | inr y ↦ elim y
              [ inl z ↦ kp (sym f ∙ z) | inr z ↦ omega arith ]
        ])
            ∙ v.i_rest a b (later b x);
        j_own = λ q l d. elim (cases_eq q k) [
          | inl e ↦ rw e j_here
          | inr c ↦ j_at q p (λ e _. c e) ∙ v.j_own q (omega arith) d
        ];
        j_rest = λ a b x. j_at a b (λ e f. elim x [
          | inl y ↦ y f
          | inr y ↦ elim y
              [ inl z ↦ kp (sym e ∙ z) | inr z ↦ omega arith ]
        ])
            ∙ v.j_rest a b (later a x);
        copied = t.copied
            ∙ ap (λ x. copies_after A P p k x (view A h.copies) (r'.lanes k p)) before_j
            ∙ ap (λ x. copies_after A P p k (j k p) x (r'.lanes k p)) v.copied
            ∙ ap (copies_after A P p k (j k p) (copies_after_all A P p k j r.lanes (view A r.held.copies))) same_frames
            ∙ rw (ne_eqb k p kp) refl;
        as_many = t.as_many ∙ v.as_many;
        emptied_own = λ q l d. elim (cases_eq q k) [
          | inl e ↦ rw (eq-eqb q k e, eq-eqb p p refl) refl
          | inr c ↦ not_this_lane q p (λ e _. c e) ∙ v.emptied_own q (omega arith) d
        ];
        lanes_rest = λ a b x.
            not_this_lane a b (λ e f. elim x [
              | inl y ↦ y f
              | inr y ↦ elim y
                  [ inl z ↦ kp (sym e ∙ z) | inr z ↦ omega arith ]
            ])
            ∙ v.lanes_rest a b (later a x);
        frames = rw (ne_eqb k p kp) (omega (arith, v.frames, ap length same_frames));
        items_in = rw (ne_eqb k p kp) counted;
        got_long = length-set r'.got k _ ∙ v.got_long;
        got_own = λ q l d. elim (cases_eq q k) [
          | inl e ↦ rw e (get_or-set_same r'.got k _ false (omega (arith, v.got_long)) ∙ ap some_item same_frames)
          | inr c ↦ get_or-set_other r'.got k q _ false c ∙ v.got_own q (omega arith) d
        ];
      }

  -- all lanes of the boards below k
  pub received_below : length links ≡ 64 → length r.got ≡ 8 → p < 8
      → ((q : ℕ) → q < 8 → Fit (edges_between edges q p) (edges_between edges p q) (length r.held.copies))
      → (k : ℕ) → k ≤ 8 → Below k (lanes_step A edges p k r)
  received_below long eight pb fits zero kb = below_none long eight
  received_below long eight pb fits (suc k) kb =
      let v = received_below long eight pb fits k (omega arith) in
      elim (cases_eq k p) [
        | inl e ↦ rw (eq-eqb k p e) (below_itself k (lanes_step A edges p k r) v e)
        | inr d ↦ rw (ne_eqb k p d) (below_more k (lanes_step A edges p k r) v d (omega arith) pb
            (fits k (omega arith)))
      ]
