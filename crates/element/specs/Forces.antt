-- Forces are equal by their axes, and keep the laws of elements.
use Rattle.std.specs.Prelude.{◌≡◌, ℕ, ◌+◌, ◌^◌, ◌<◌}
use Rattle.std.proofs.Math.Path.{PathP}
use mathlib.Core.HLevel.{is_prop→PathP}
use Rattle.std.proofs.Math.Bridge.{le_prop}
use Rattle.std.proofs.Common.{arith}
use Rattle.element.specs.Algebra.{Lawful}
use Rattle.element.specs.Models.{axis, force, force_algebra}
use Rattle.element.specs.declared.force.Force.{Force}

-- a bound has one proof at most
same_bound : {m n : ℕ} (e : m ≡ n) (f : m < 2 ^ 32) (g : n < 2 ^ 32) → PathP (λ i. e i < 2 ^ 32) f g
same_bound e f g = is_prop→PathP (λ i. e i < 2 ^ 32) (λ i. le_prop) f g

pub same_force : (f g : Force) → f.x ≡ g.x → f.y ≡ g.y → f.z ≡ g.z → f ≡ g
same_force f g p q r = λ i. record {
  x = p i;
  y = q i;
  z = r i;
  fits = (
    same_bound p f.fits.0 g.fits.0 i,
    same_bound q f.fits.1 g.fits.1 i,
    same_bound r f.fits.2 g.fits.2 i,
  );
}

axis_assoc : (a b c : ℕ) → axis (axis (a + b) + c) ≡ axis (a + axis (b + c))
axis_assoc a b c = omega arith

axis_comm : (a b : ℕ) → axis (a + b) ≡ axis (b + a)
axis_comm a b = omega arith

-- what keeps each axis within its word keeps the force
same_axes : (t : ℕ → ℕ) → ((n : ℕ) → n < 2 ^ 32 → axis (t n) ≡ n) → (a : Force)
    → force (t a.x) (t a.y) (t a.z) ≡ a
same_axes t h a = same_force _ _ (h a.x a.fits.0) (h a.y a.fits.1) (h a.z a.fits.2)

axis_of_word : (n : ℕ) → n < 2 ^ 32 → axis n ≡ n
axis_of_word n h = omega arith

pub force_lawful : Lawful force_algebra
force_lawful = record {
  join_assoc = λ a b c. same_force _ _ (axis_assoc a.x b.x c.x) (axis_assoc a.y b.y c.y)
      (axis_assoc a.z b.z c.z);
  join_comm = λ a b. same_force _ _ (axis_comm a.x b.x) (axis_comm a.y b.y) (axis_comm a.z b.z);
  zero_join = same_axes (λ n. 0 + n) (λ n h. omega arith);
  join_zero = same_axes (λ n. n + 0) (λ n h. omega arith);
  unpack_pack = same_axes (λ n. n) axis_of_word;
  pack_unpack = λ w h. rw (axis_of_word w.x h.0, axis_of_word w.y h.1, axis_of_word w.z h.2);
}
