-- The invariant of a run: each link by its counts and lanes, each board's copies by what it has accepted.
use Rattle.std.proofs.Common.{◌≡◌, ℕ, ◌+◌, ◌<◌, ◌≤◌, true, ◌≢◌, [], sym, ap, ◌∙◌, arith}
use Rattle.std.proofs.lemmas.Bool.{le-ltb}
use Rattle.element.specs.Algebra.{Algebra, Lawful}
use Rattle.element.proofs.Joins.{join_below_same, join_below_zeros}
use Rattle.element.specs.declared.words.Words.{Words}
use Rattle.plan.specs.Links.{items}
use Rattle.protocol.specs.Turns.{State}
use Rattle.protocol.proofs.Plan.{Plan}
use Rattle.protocol.proofs.Link.{LinkInv, link_fresh, link_orders}
use Rattle.protocol.proofs.Copies.{Copies, content}
use Rattle.protocol.proofs.Gathering.{May}

module _ {M : Type 0} {A : Algebra M} (P : Plan A) where
  -- the words are those of item k from p to q
  abbrev pub IsItem : ℕ → ℕ → ℕ → Words → Type 0
  IsItem p q k w = A.unpack w ≡ content P p q k

  abbrev pub LinkOf : State M → ℕ → ℕ → Type 0
  LinkOf s p q = LinkInv (items P.shape p q) (IsItem p q) (May P s.j p q)
      (s.i p q) (s.j p q) (s.lane p q) (s.lane q p)

  pub record Inv (s : State M) : Type 0 where
    pub links : (p q : ℕ) → p < P.shape.boards → q < P.shape.boards → p ≢ q → LinkOf s p q
    pub copies : (p : ℕ) → p < P.shape.boards → Copies P p (λ q. s.j q p) s.val

  -- of each link: what is known to have arrived was accepted, at most one item more was, and never more than there are
  pub counts_in_order : (s : State M) → Inv s → (p q : ℕ) → p < P.shape.boards → q < P.shape.boards → p ≢ q
      → (s.i p q ≤ s.j p q) × (s.j p q ≤ s.i p q + 1) × (s.j p q ≤ items P.shape p q)
  counts_in_order s v p q pb qb pq = link_orders _ _ _ _ _ _ _ (v.links p q pb qb pq)

  -- nothing counted, nothing under way, each valid copy its own sum
  pub record FreshState (s : State M) : Type 0 where
    pub i_zero : (a b : ℕ) → s.i a b ≡ 0
    pub j_zero : (a b : ℕ) → s.j a b ≡ 0
    pub empty : (a b : ℕ) → s.lane a b ≡ []
    pub loaded : (c : ℕ) → P.valid c ≡ true → s.val c ≡ P.own c

module _ {M : Type 0} {A : Algebra M} (law : Lawful A) (P : Plan A) (s : State M) (f : FreshState P s) where
  fresh_copies : (a : ℕ) → Copies P a (λ q. s.j q a) s.val
  fresh_copies a = record {
    leaves = λ q m k.
        rw (f.loaded _ (P.leaf_valid a q m k), f.j_zero q a, le-ltb (P.shape.up q a + m) 0 (omega arith));
    roots = λ c is on.
        let none = join_below_same A P.shape.boards _ (λ _. A.zero) (λ q k. rw (f.j_zero q a))
        ∙ join_below_zeros A law P.shape.boards in
        f.loaded c (P.root_valid c is) ∙ sym (ap (A.join (P.own c)) none ∙ law.join_zero (P.own c));
  }

  pub fresh_keeps : Inv P s
  fresh_keeps = record {
    links = λ a b la lb ab. rw (f.i_zero a b, f.j_zero a b, f.empty a b, f.empty b a)
        (link_fresh (items P.shape a b) (IsItem P a b) (May P s.j a b));
    copies = λ a l. fresh_copies a;
  }
