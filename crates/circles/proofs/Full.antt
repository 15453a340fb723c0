-- Ascending circles are full circles, one after the other.
use Rattle.std.proofs.Common.{◌≡◌, ℕ, zero, suc, ◌+◌, ◌<◌, ◌≤◌, List, [], ◌++◌, replicate, sym, refl, ap, ◌∙◌, inl, inr}
use Rattle.std.proofs.Common.{append_assoc, append-nil, arith}
use Rattle.std.specs.List.{range_with_len, AllByRecursion}
use Rattle.std.proofs.lemmas.Bool.{cases_eq}
use Rattle.std.proofs.lemmas.List.Elements.{All-replicate, recursion_from_All}
use Rattle.protocol.specs.Promise.{In, Full, flat}
use Rattle.circles.specs.Circles.{circles}

in_range : (p a n : ℕ) → a ≤ p → p < a + n → In p (range_with_len a n)
in_range p a zero low high = absurd (omega arith)
in_range p a (suc n) low high = elim (cases_eq a p) [
  | inl e ↦ inl e
  | inr d ↦ inr (in_range p (a + 1) n (omega arith) (omega arith))
]

one_more : (c : List ℕ) (k : ℕ) → flat (replicate k c) ++ c ≡ c ++ flat (replicate k c)
one_more c zero = sym (append-nil c)
one_more c (suc k) = append_assoc c (flat (replicate k c)) c ∙ ap (λ x. c ++ x) (one_more c k)

flat_circles : (boards k : ℕ) → circles boards k ≡ flat (replicate k (range_with_len 0 boards))
flat_circles boards zero = refl
flat_circles boards (suc k) =
    ap (λ x. x ++ range_with_len 0 boards) (flat_circles boards k) ∙ one_more (range_with_len 0 boards) k

-- k ascending circles, cut into as many full ones
pub circles_cut : (boards k : ℕ) → circles boards k ≡ flat (replicate k (range_with_len 0 boards)) ++ []
circles_cut boards k = flat_circles boards k ∙ sym (append-nil (flat (replicate k (range_with_len 0 boards))))

pub circles_full : (boards k : ℕ) → AllByRecursion (Full boards) (replicate k (range_with_len 0 boards))
circles_full boards k =
    recursion_from_All (Full boards) _
    (All-replicate (Full boards) k _ (λ p l. in_range p 0 boards (omega arith) (omega arith)))
