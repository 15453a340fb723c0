-- The bitwise or of numbers: its bits, and that it is associative.
use Rattle.std.specs.Prelude.{◌≡◌, ℕ, zero, suc, ◌+◌, ◌*◌, ◌/◌, ◌%◌, ◌^◌, ◌<◌, ◌≤◌, max, ◌||◌, ◌==◌, bit_or, nat_eq}
use Rattle.std.specs.Prelude.{refl}
use Rattle.std.proofs.Common.{sym, ap, subst, ◌∙◌, arith}
use Rattle.std.specs.Int.Bits.{or_step}
use Rattle.std.proofs.lemmas.Nat.{or_shr}
use Rattle.std.proofs.lemmas.Bool.Decides.{nat_tests}
use Rattle.element.specs.Models.{bit}

-- by halving, as often as m allows
or_assoc_upto : (m a b c : ℕ) → a ≤ m → bit_or (bit_or a b) c ≡ bit_or a (bit_or b c)
or_assoc_upto zero a b c h =
    let none : a ≡ 0 = omega arith in
    subst (λ k. bit_or (bit_or k b) c ≡ bit_or k (bit_or b c)) (sym none) refl
or_assoc_upto (suc m) a b c h =
    let halves = or_assoc_upto m (a / 2) (b / 2) (c / 2) (omega arith) in
    let ab = or_step a b in
    let bc = or_step b c in
    let ab_half : bit_or a b / 2 ≡ bit_or (a / 2) (b / 2) = omega arith in
    let bc_half : bit_or b c / 2 ≡ bit_or (b / 2) (c / 2) = omega arith in
    let left = or_step (bit_or a b) c ∙ ap (λ h. bit_or h (c / 2) * 2 + max (bit_or a b % 2) (c % 2)) ab_half in
    let right = or_step a (bit_or b c) ∙ ap (λ h. bit_or (a / 2) h * 2 + max (a % 2) (bit_or b c % 2)) bc_half in
    omega arith

pub or_assoc : (a b c : ℕ) → bit_or (bit_or a b) c ≡ bit_or a (bit_or b c)
or_assoc a b c = or_assoc_upto a a b c (omega arith)

one_of : (m n : ℕ) → m < 2 → n < 2 → (max m n == 1) ≡ (m == 1 || n == 1)
one_of m n h l = grind (arith, nat_tests)

-- a bit of the or is set exactly if it is set in either
pub or_bit : (a b k : ℕ) → bit (bit_or a b) k ≡ (bit a k || bit b k)
or_bit a b k =
    let m = a / 2 ^ k in
    let n = b / 2 ^ k in
    let step = or_step m n in
    let last : bit_or m n % 2 ≡ max (m % 2) (n % 2) = omega arith in
    ap (λ h. nat_eq (h % 2) 1) (or_shr a b k)
    ∙ ap (λ h. nat_eq h 1) last
    ∙ one_of (m % 2) (n % 2) (omega arith) (omega arith)
