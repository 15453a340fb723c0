-- When all rules of a list hold: the list taken apart, and put together.
use Rattle.std.proofs.Common.{◌≡◌, ℕ, ◌+◌, ◌<◌, ◌≤◌, true, ◌&&◌, List, [], ◌∷◌, ◌++◌, refl, ap}
use Rattle.std.specs.List.{range_with_len, flat_map, AllByRecursion}
use Rattle.std.proofs.lemmas.Bool.{and_parts, and_from}
use Rattle.scene.specs.declared.fault.RecordFault.{RecordFault}
use Rattle.scene.specs.Rules.{Rule, all_hold, in_record}
use Rattle.scene.proofs.Counted.{all_counted, counted_all}

-- that a rule holds
abbrev pub RuleHolds : {F : Type 0} → Rule F → Type 0
RuleHolds r = r.0 ≡ true

pub each_kept : {F : Type 0} (rs : List (Rule F)) → all_hold rs ≡ true → AllByRecursion RuleHolds rs
each_kept [] h = tt
each_kept (r ∷ rs) h = let p = and_parts r.0 (all_hold rs) h in (p.0, each_kept rs p.1)

pub kept_each : {F : Type 0} (rs : List (Rule F)) → AllByRecursion RuleHolds rs → all_hold rs ≡ true
kept_each [] h = refl
kept_each (r ∷ rs) h = and_from r.0 (all_hold rs) h.0 (kept_each rs h.1)

pub hold_append : {F : Type 0} (xs ys : List (Rule F)) → all_hold (xs ++ ys) ≡ true
    → (all_hold xs ≡ true) × (all_hold ys ≡ true)
hold_append [] ys h = (refl, h)
hold_append (r ∷ rs) ys h =
    let p = and_parts r.0 (all_hold (rs ++ ys)) h in
    let q = hold_append rs ys p.1 in
    (and_from r.0 (all_hold rs) p.0 q.0, q.1)

pub append_hold : {F : Type 0} (xs ys : List (Rule F)) → all_hold xs ≡ true → all_hold ys ≡ true
    → all_hold (xs ++ ys) ≡ true
append_hold [] ys h k = k
append_hold (r ∷ rs) ys h k =
    let p = and_parts r.0 (all_hold rs) h in
    and_from r.0 (all_hold (rs ++ ys)) p.0 (append_hold rs ys p.1 k)

pub hold_record : (n : ℕ) (rs : List (Rule RecordFault)) → all_hold (in_record n rs) ≡ all_hold rs
hold_record n [] = refl
hold_record n (r ∷ rs) = ap (λ t. r.0 && t) (hold_record n rs)

hold_joined : {F : Type 0} (f : ℕ → List (Rule F)) (is : List ℕ) → all_hold (flat_map f is) ≡ true
    → AllByRecursion (λ i. all_hold (f i) ≡ true) is
hold_joined f [] h = tt
hold_joined f (i ∷ is) h =
    let p = hold_append (f i) (flat_map f is) h in
    (p.0, hold_joined f is p.1)

joined_hold : {F : Type 0} (f : ℕ → List (Rule F)) (is : List ℕ) → AllByRecursion (λ i. all_hold (f i) ≡ true) is
    → all_hold (flat_map f is) ≡ true
joined_hold f [] h = refl
joined_hold f (i ∷ is) h = append_hold (f i) (flat_map f is) h.0 (joined_hold f is h.1)

-- the rules for each number from a on, n of them
module _ {F : Type 0} (f : ℕ → List (Rule F)) (a n : ℕ) where
  pub hold_at : all_hold (flat_map f (range_with_len a n)) ≡ true → (i : ℕ) → a ≤ i → i < a + n → all_hold (f i) ≡ true
  hold_at h = counted_all (λ i. all_hold (f i) ≡ true) a n (hold_joined f (range_with_len a n) h)

  pub at_hold : ((i : ℕ) → a ≤ i → i < a + n → all_hold (f i) ≡ true)
      → all_hold (flat_map f (range_with_len a n)) ≡ true
  at_hold h = joined_hold f (range_with_len a n) (all_counted (λ i. all_hold (f i) ≡ true) a n h)
