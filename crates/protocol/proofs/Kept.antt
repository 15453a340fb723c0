-- A turn keeps the invariant.
use Rattle.std.proofs.Common.{◌≡◌, ℕ, zero, suc, ◌+◌, ◌-◌, ◌<◌, ◌≤◌, cond, ltb, ◌≢◌, sym, refl, ap, ◌∙◌, subst, inl}
use Rattle.std.proofs.Common.{inr, arith}
use mathlib.Core.Path.{fun_ext}
use Rattle.std.proofs.lemmas.Bool.{cases_eq, eq-eqb, ne_eqb, cases_lt, cases_Bool, lt-ltb, le-ltb}
use Rattle.element.specs.Algebra.{Algebra, Lawful}
use Rattle.plan.specs.Links.{Shape, items}
use Rattle.protocol.specs.Frames.{words_of}
use Rattle.protocol.specs.Turns.{State, Turned, link_value, accept, copies_after_all, wants, put_frame}
use Rattle.protocol.proofs.Plan.{Plan}
use Rattle.protocol.proofs.Link.{Carries, sender, receiver, receives, onlooker}
use Rattle.protocol.proofs.Copies.{Copies, content, accept_keeps, ltb_skip}
use Rattle.protocol.proofs.Gathering.{May, root_total}
use Rattle.protocol.proofs.Invariant.{IsItem, LinkOf, Inv}
use Rattle.protocol.proofs.Turning.{wants_says, copies_after_all_else, may_lasts}

copies_at : {M : Type 0} {A : Algebra M} (P : Plan A) (p : ℕ) (val : ℕ → M) (j j' : ℕ → ℕ) → ((q : ℕ) → j q ≡ j' q)
    → Copies P p j val → Copies P p j' val
copies_at P p val j j' h v = subst (λ f. Copies P p f val) (fun_ext h) v

module _ {M : Type 0} {A : Algebra M} (law : Lawful A) (P : Plan A) (s u : State M) (p : ℕ)
    (t : Turned A P.shape s u p) (pb : p < P.shape.boards) where
  abbrev S : Shape
  S = P.shape

  -- what p has accepted once the lanes of the boards below k are taken
  mid : ℕ → ℕ → ℕ
  mid k q = cond (ltb q k) (u.j q p) (s.j q p)

  mid_rest : (k r : ℕ) → r ≢ k → mid (suc k) r ≡ mid k r
  unfolding mid
  mid_rest k r d = rw (ltb_skip r k d)

  mid_here : (k : ℕ) → mid (suc k) k ≡ u.j k p
  unfolding mid
  mid_here k = rw (lt-ltb k (suc k) (omega arith))

  mid_there : (k : ℕ) → mid k k ≡ s.j k p
  unfolding mid
  mid_there k = rw (le-ltb k k (omega arith))

  mid_still : (k : ℕ) → u.j k p ≡ s.j k p → (q : ℕ) → mid k q ≡ mid (suc k) q
  mid_still k h q = elim (cases_eq q k) [
    | inl e ↦ rw e (mid_there k ∙ sym h ∙ sym (mid_here k))
    | inr d ↦ sym (mid_rest k q d)
  ]

  mid_start : (q : ℕ) → s.j q p ≡ mid 0 q
  unfolding mid
  mid_start q = rw (le-ltb q 0 (omega arith))

  mid_end : (q : ℕ) → mid S.boards q ≡ u.j q p
  unfolding mid
  mid_end q = elim (cases_lt q S.boards) [
    | inl l ↦ rw (lt-ltb q S.boards l)
    | inr g ↦ rw (le-ltb q S.boards g) (sym (t.j_rest q p (inr (inr g))))
  ]

  module _ (v : Inv P s) where
    abbrev taken_below : ℕ → ℕ → M
    taken_below k = copies_after_all A S p k s.j s.lane s.val

    mid_copies : (k : ℕ) → k ≤ S.boards → Copies P p (mid k) (taken_below k)
    mid_copies zero l = copies_at P p s.val (λ q. s.j q p) (mid 0) mid_start (v.copies p pb)
    mid_copies (suc k) l =
        let x = taken_below k in
        let ih : Copies P p (mid k) x = mid_copies k (omega arith) in
        elim (cases_eq k p) [
          | inl e ↦
              let same = mid_still k (t.j_rest k p (inr (inl e))) in
              rw (eq-eqb k p e) (copies_at P p x (mid k) (mid (suc k)) same ih)
          | inr d ↦ rw (ne_eqb k p d) (elim
              (receives _ _ _ _ _ _ _ (v.links k p (omega arith) pb d)
              (λ j f val. accept A S p k j (words_of f.item) val) x) [
                | inl (e₁, e₂) ↦
                    let same = mid_still k (t.j_own k (omega arith) d ∙ e₁) in
                    rw e₂ (copies_at P p x (mid k) (mid (suc k)) same ih)
                | inr (e₁, room, _, (f, holds, e₂)) ↦
                    let more = mid_here k ∙ t.j_own k (omega arith) d ∙ e₁ ∙ ap suc (sym (mid_there k)) in
                    rw e₂ (rw (mid_there k) at
                    (accept_keeps law P p (mid k) (mid (suc k)) x ih k (words_of f.item) (omega arith)
                    (rw (mid_there k) room) (rw (mid_there k) holds) more (λ r n. mid_rest k r n)))
              ])
        ]

    own_copies : Copies P p (λ q. u.j q p) u.val
    own_copies = rw t.val_is
        (copies_at P p _ (mid S.boards) (λ q. u.j q p) mid_end (mid_copies S.boards (omega arith)))

    else_copies : (a : ℕ) → a < S.boards → a ≢ p → Copies P a (λ q. u.j q a) u.val
    else_copies a l d =
        let same_j : (q : ℕ) → s.j q a ≡ u.j q a = λ q. sym (t.j_rest q a (inl d)) in
        let old : Copies P a (λ q. u.j q a) s.val = copies_at P a s.val _ _ same_j (v.copies a l) in
        let same : (c : ℕ) → P.board c ≡ a → u.val c ≡ s.val c = λ c b.
        rw t.val_is (copies_after_all_else P s u p S.boards c (λ e. d (sym b ∙ e))) in
        record {
          leaves = λ q m k. same _ (P.leaf_board a q m k) ∙ old.leaves q m k;
          roots = λ c is on. same c on ∙ old.roots c is on;
        }

    -- the links by which p receives
    in_link : (a : ℕ) → a < S.boards → a ≢ p → LinkOf P u a p
    in_link a l d = rw (t.i_rest a p (inl d), t.taken a l d, t.sent a l d)
        (receiver _ _ _ (May P u.j a p) (may_lasts P s u p t a p) _ _ _ _ (v.links a p l pb d)
        (u.j a p) _ _ (t.j_own a l d) refl)

    -- no up item is sent anew once its leaf is replaced: a root's board that spreads has accepted all that rises
    not_replaced : (b : ℕ) → b < S.boards → b ≢ p → u.i p b ≡ u.j p b → u.i p b < S.up p b
        → u.j b p ≤ S.up b p + u.i p b
    not_replaced b l d e x = elim (cases_lt (S.up b p) (u.j b p)) [
      | inr y ↦ omega arith
      | inl y ↦ elim ((in_link b l d).asked (S.up b p) y) [
        | inl z ↦ absurd (omega arith)
        | inr g ↦ absurd (omega (arith, g p pb (λ z. d (sym z))))
      ]
    ]

    -- an item that is sent anew says what it should
    says : (b : ℕ) → b < S.boards → b ≢ p → u.i p b ≡ u.j p b → u.i p b < items S p b
        → May P u.j p b (u.i p b) → link_value A S u.val p b (u.i p b) ≡ content P p b (u.i p b)
    says b l d e n m = elim (cases_lt (u.i p b) (S.up p b)) [
      | inl x ↦
          let early = le-ltb (S.up b p + u.i p b) (u.j b p) (not_replaced b l d e x) in
          rw (lt-ltb (u.i p b) (S.up p b) x) (own_copies.leaves b (u.i p b) x ∙ rw early)
      | inr x ↦
          let m₀ = u.i p b - S.up p b in
          let k : m₀ < S.up b p = omega arith in
          rw (le-ltb (u.i p b) (S.up p b) x) (elim m [
            | inl y ↦ absurd (omega arith)
            | inr g ↦ root_total law P p u.j u.val own_copies g (S.root b p m₀)
                (P.roots_are_roots b p m₀ k) (P.root_board b p m₀ k)
          ])
    ]

    -- what p puts to b
    frame_carries : (b : ℕ) → b < S.boards → b ≢ p
        → Carries (λ w. u.i p b ≡ s.j p b → IsItem P p b (s.j p b) w) (May P u.j p b (u.i p b)) (u.i p b)
        (put_frame A S s u p b).item
    frame_carries b l d =
        let ej : u.j p b ≡ s.j p b = t.j_rest p b (inl d) in
        elim (cases_Bool (wants A S s u p b)) [
          | inr n ↦ rw n tt
          | inl w ↦
              let (n, m) = wants_says P s u p b w in
              rw w (refl, (λ e. law.unpack_pack _ ∙ rw (← e) (says b l d (e ∙ sym ej) n m)), m)
        ]

    -- the links by which it sends
    out_link : (b : ℕ) → b < S.boards → b ≢ p → LinkOf P u p b
    out_link b l d = rw (t.j_rest p b (inl d), t.sent b l d, t.taken b l d)
        (sender _ _ _ (May P u.j p b) (may_lasts P s u p t p b) _ _ _ _ (v.links p b pb l (λ e. d (sym e)))
        (u.i p b) _ (put_frame A S s u p b) (t.i_own b l d) (frame_carries b l d))

    other_link : (a b : ℕ) → a < S.boards → b < S.boards → a ≢ b → a ≢ p → b ≢ p → LinkOf P u a b
    other_link a b la lb ab da db =
        let to = t.lane_rest a b (inl (da, db)) in
        let fro = t.lane_rest b a (inl (db, da)) in
        rw (t.i_rest a b (inl da), t.j_rest a b (inl db), to, fro)
        (onlooker _ _ _ (May P u.j a b) (may_lasts P s u p t a b) _ _ _ _ (v.links a b la lb ab))

    pub turn_keeps : Inv P u
    turn_keeps = record {
      links = λ a b la lb ab. elim (cases_eq a p) [
        | inl e ↦ rw e (out_link b lb (λ x. ab (e ∙ sym x)))
        | inr da ↦ elim (cases_eq b p) [ inl e ↦ rw e (in_link a la da) | inr db ↦ other_link a b la lb ab da db ]
      ];
      copies = λ a l. elim (cases_eq a p) [ inl e ↦ rw e own_copies | inr d ↦ else_copies a l d ];
    }
