-- Lists over the numbers below n, gathered number by number.
use Rattle.std.proofs.Common.{◌≡◌, ℕ, zero, suc, ◌+◌, ◌<◌, Bool, true, false, cond, List, [], ◌∷◌, ◌++◌, map, length}
use Rattle.std.proofs.Common.{filter, sym, refl, ap, ◌∙◌, zero-add, add-one, arith}
use mir.Val.{bool_byte}
use Rattle.std.specs.List.{range_with_len, flat_map}
use Rattle.std.proofs.lemmas.List.FromFn.{map-range_with_len_more}
use Rattle.std.proofs.lemmas.List.Elements.{filter-append}
use Rattle.std.proofs.lemmas.List.{map-id, map-append, flat_map_more, length-map}
use Rattle.laying.specs.Rows.{many, lists_below, only}
use Rattle.laying.proofs.Gather.{length_only}

pub counting_last : (n : ℕ) → range_with_len 0 (suc n) ≡ range_with_len 0 n ++ n ∷ []
counting_last n =
    sym (map-id (range_with_len 0 (suc n)))
    ∙ ap (λ m. map (λ (x : ℕ). x) (range_with_len 0 m)) (sym (add-one n))
    ∙ map-range_with_len_more (λ x. x) 0 n n (zero-add n)
    ∙ ap (λ l. l ++ n ∷ []) (map-id (range_with_len 0 n))

pub joined_lists_below : {X : Type 0} (f : ℕ → List X) (n : ℕ) → flat_map f (range_with_len 0 n) ≡ lists_below f n
joined_lists_below f zero = refl
joined_lists_below f (suc n) =
    ap (flat_map f) (counting_last n)
    ∙ sym (flat_map_more f [] (range_with_len 0 n) n)
    ∙ ap (λ l. l ++ f n) (joined_lists_below f n)

pub lists_below_same : {X : Type 0} (f g : ℕ → List X) (n : ℕ) → ((k : ℕ) → k < n → f k ≡ g k)
    → lists_below f n ≡ lists_below g n
lists_below_same f g zero h = refl
lists_below_same f g (suc n) h =
    ap (λ l. l ++ f n) (lists_below_same f g n (λ k l. h k (omega arith)))
    ∙ ap (λ l. lists_below g n ++ l) (h n (omega arith))

map_only : {X : Type 0} (f : ℕ → X) (v : ℕ) (b : Bool) → map f (cond b (v ∷ []) []) ≡ only b (f v)
map_only f v true = refl
map_only f v false = refl

-- the numbers that pass, one by one
pub picked : {X : Type 0} (f : ℕ → X) (t : ℕ → Bool) (n : ℕ)
    → map f (filter t (range_with_len 0 n)) ≡ lists_below (λ v. only (t v) (f v)) n
picked f t zero = refl
picked f t (suc n) =
    ap (λ l. map f (filter t l)) (counting_last n)
    ∙ ap (map f) (filter-append t (range_with_len 0 n) (n ∷ []))
    ∙ map-append f (filter t (range_with_len 0 n)) (filter t (n ∷ []))
    ∙ ap (λ l. l ++ map f (filter t (n ∷ []))) (picked f t n)
    ∙ ap (λ l. lists_below (λ v. only (t v) (f v)) n ++ l) (map_only f n (t n))

pub counted : (t : ℕ → Bool) (n : ℕ) → length (filter t (range_with_len 0 n)) ≡ many t n
counted t n =
    sym (length-map (filter t (range_with_len 0 n)) (λ (v : ℕ). v))
    ∙ ap length (picked (λ v. v) t n)
    ∙ length_only t (λ v. v) n

pub many_same : (t u : ℕ → Bool) (n : ℕ) → ((k : ℕ) → k < n → t k ≡ u k) → many t n ≡ many u n
many_same t u zero h = refl
many_same t u (suc n) h =
    ap (λ m. m + bool_byte (t n)) (many_same t u n (λ k l. h k (omega arith)))
    ∙ ap (λ b. many u n + bool_byte b) (h n (omega arith))
