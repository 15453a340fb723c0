-- The bits of a set of boards.
use Rattle.std.proofs.Common.{◌≡◌, ℕ, ◌*◌, ◌%◌, ◌^◌, ◌<◌, ◌||◌, ◌&&◌, not, Bool, true, false, eqb, Some, List, length}
use Rattle.std.proofs.Common.{set, sym, refl, ap, ◌∙◌, inl, inr, arith}
use Rattle.std.specs.Int.{bit_at, trailing_zeros, w8}
use Rattle.std.proofs.lemmas.Bool.{cases_eq, cases_lt, eq-eqb, ne_eqb}
use Rattle.std.proofs.Math.Bool.{or-false, and-true, and-false}
use Rattle.std.specs.Prelude.{bit_and}
use Rattle.std.proofs.lemmas.List.{get_or-set_same, get_or-set_other}
use Rattle.std.proofs.lemmas.Nat.{one_shl, pow_pos}
use Rattle.std.proofs.lemmas.Nat.Bits.{bit_at-pow_same, bit_at-pow_other, bit_at-trailing_zeros, bit_at-lt, and_pow}
use Rattle.element.specs.Models.{bit}
use Rattle.laying.specs.BoardSets.{has, board_set_at}
use Rattle.laying.specs.Tables.{lowest_below}
use Rattle.laying.specs.declared.board_set.BoardSet.{BoardSet}
use Rattle.laying.proofs.Lowest.{lowest_found}

-- one bit alone is set
pub bit_only : (p q : ℕ) → p < 8 → bit ((1 * 2 ^ p) % 2 ^ 8) q ≡ eqb p q
bit_only p q h =
    ap (λ n. bit n q) (one_shl p 8 h)
    ∙ elim (cases_eq p q) [
      | inl e ↦
          ap (λ k. bit (2 ^ p) k) (sym e)
          ∙ ap (λ x. eqb x 1) (bit_at-pow_same p)
          ∙ sym (eq-eqb p q e)
      | inr d ↦ ap (λ x. eqb x 1) (bit_at-pow_other p q (λ e. d (sym e))) ∙ sym (ne_eqb p q d)
    ]

-- the lowest board of a set that is not empty
pub lowest_bit : (n : ℕ) → 0 < n → n < 2 ^ 8 → lowest_below (bit n) 8 ≡ Some (trailing_zeros w8 n)
lowest_bit n some few =
    let (low, here, none) = bit_at-trailing_zeros w8 n some few in
    lowest_found (bit n) 8 (trailing_zeros w8 n) low (ap (λ x. eqb x 1) here) (λ k l. ap (λ x. eqb x 1) (none k l))

-- boards that come to the vertex x
pub added : (sets : List BoardSet) (x v p : ℕ) (new : BoardSet) (h : Bool) → x < length sets
    → has new p ≡ (has (board_set_at sets x) p || h)
    → has (board_set_at (set sets x new) v) p ≡ (has (board_set_at sets v) p || (h && eqb x v))
added sets x v p new h low is =
    elim (cases_eq v x) [
      | inl e ↦
          ap (λ k. has (board_set_at (set sets x new) k) p) e
          ∙ ap (λ s. has s p) (get_or-set_same sets x new (record { bits = 0 }) low)
          ∙ is
          ∙ ap (λ k. has (board_set_at sets k) p || h) (sym e)
          ∙ ap (λ b. has (board_set_at sets v) p || b) (sym (ap (λ b. h && b) (eq-eqb x v (sym e)) ∙ and-true h))
      | inr n ↦
          ap (λ s. has s p) (get_or-set_other sets x v new (record { bits = 0 }) n)
          ∙ sym
          (ap (λ b. has (board_set_at sets v) p || (h && b)) (ne_eqb x v (λ e. n (sym e)))
          ∙ ap (λ b. has (board_set_at sets v) p || b) (and-false h)
          ∙ or-false (has (board_set_at sets v) p))
    ]

-- boards that come to some vertices, and to one more
pub come_again : (a h b c : Bool) → ((a || (h && b)) || (h && c)) ≡ (a || (h && (b || c)))
come_again true h b c = refl
come_again false true b c = refl
come_again false false b c = refl

-- the test of one bit
pub bit_tested : (n p : ℕ) → p < 8 → not (eqb (bit_and n ((1 * 2 ^ p) % 2 ^ 8)) 0) ≡ bit n p
bit_tested n p h =
    ap (λ m. not (eqb (bit_and n m) 0)) (one_shl p 8 h)
    ∙ ap (λ m. not (eqb m 0)) (and_pow n p)
    ∙ elim (cases_lt (bit_at n p) 1) [
      | inl l ↦
          let none : bit_at n p ≡ 0 = omega arith in
          let zero : 0 * 2 ^ p ≡ 0 = omega arith in
          rw none (ap (λ m. not (eqb m 0)) zero)
      | inr l ↦
          let one : bit_at n p ≡ 1 = omega (arith, bit_at-lt n p) in
          rw one (ap not (ne_eqb (1 * 2 ^ p) 0 (λ e. omega (arith, pow_pos p))))
    ]
