-- Where a binary search in records that rise by a number ends.
use Rattle.std.proofs.Common.{◌≡◌, ℕ, zero, suc, ◌+◌, ◌≤◌, Bool, true, false, eqb, leb, ltb, List, [], ◌∷◌}
use Rattle.std.proofs.Common.{length, filter, Bor, sym, ap, ◌∙◌, arith}
use denote.Param.Members.{Mut}
use Rattle.std.specs.Fn.{Called, ComputesKey}
use Rattle.std.specs.List.Sorted.{IsNonDecreasingBy, IsPartitionedBy, IsPartitionPoint}
use Rattle.std.proofs.Math.Dec.{leb-suc-suc}
use Rattle.std.proofs.lemmas.List.Elements.{filter_agree}
use Rattle.std.proofs.lemmas.List.Sorted.{IsPartitionPoint-from_clause, IsPartitionedBy-ltb, IsPartitionedBy-leb}
use Rattle.plan.proofs.Orders.{count_more}

-- as many records pass as stand before the point
pub point_counts : {X : Type 0} (t : X → Bool) (xs : List X) (i : ℕ)
    → IsPartitionPoint (λ x. t x ≡ true) (λ x. t x ≡ false) xs i → i ≤ length xs → i ≡ length (filter t xs)
point_counts t [] i h l = omega arith
point_counts t (x ∷ xs) zero h l =
    rw (h.1 0 x (omega arith) (omega arith)) (point_counts t xs zero
    ((λ k d a b. absurd (omega arith)), (λ k d a b. h.1 (suc k) d (omega arith) (omega arith))) (omega arith))
point_counts t (x ∷ xs) (suc i) h l =
    rw (h.0 0 x (omega arith) (omega arith)) (ap suc (point_counts t xs i (
      (λ k d a b. h.0 (suc k) d (omega arith) (omega arith)),
      (λ k d a b. h.1 (suc k) d (omega arith) (omega arith)),
    ) (omega arith)))

-- those at most n: those below it, and its own
count_up_to : {X : Type 0} (f : X → ℕ) (n : ℕ) (xs : List X) → length (filter (λ x. leb (f x) n) xs)
    ≡ length (filter (λ x. ltb (f x) n) xs) + length (filter (λ x. eqb (f x) n) xs)
count_up_to f n xs =
    ap length (filter_agree _ _ (λ x. sym (leb-suc-suc (f x) n)) xs) ∙ count_more f n xs

-- from the clauses of `partition_point`, where each call tests f of the record
module _
    {X : Type 0} (f : X → ℕ) (n : ℕ) (xs : List X) (rises : IsNonDecreasingBy f xs) (i : ℕ)
    {F : Type 0} {g : Mut F (Bor X × Unit {0}) Bool} {s : F} (within : i ≤ length xs)
    (found : (t : X → Bool) → ComputesKey g t s → IsPartitionedBy t xs
    → IsPartitionPoint (λ x. t x ≡ true) (λ x. t x ≡ false) xs i) where
  pub ends_below : ((a : Bor X × Unit {0}) (r : Bool) (q : F) → Called g s a r q → (r ≡ ltb (f a.0.now) n) × (q ≡ s))
      → i ≡ length (filter (λ x. ltb (f x) n) xs)
  ends_below calls =
      point_counts (λ x. ltb (f x) n) xs i
      (IsPartitionPoint-from_clause (λ x. ltb (f x) n) xs i found (IsPartitionedBy-ltb f xs n rises) calls) within

  pub ends_past : ((a : Bor X × Unit {0}) (r : Bool) (q : F) → Called g s a r q → (r ≡ leb (f a.0.now) n) × (q ≡ s))
      → i ≡ length (filter (λ x. ltb (f x) n) xs) + length (filter (λ x. eqb (f x) n) xs)
  ends_past calls =
      point_counts (λ x. leb (f x) n) xs i
      (IsPartitionPoint-from_clause (λ x. leb (f x) n) xs i found (IsPartitionedBy-leb f xs n rises) calls) within
      ∙ count_up_to f n xs
