-- Sets of tags keep the laws of elements.
use Rattle.std.specs.Prelude.{refl}
use Rattle.std.proofs.Common.{ap₂}
use Rattle.std.proofs.lemmas.Nat.{or_comm}
use Rattle.std.specs.Int.Bits.{or_zero_r}
use Rattle.element.specs.Algebra.{Lawful}
use Rattle.element.specs.Models.{tags, tags_algebra}
use Rattle.element.specs.Bitwise.{or_assoc}

pub tags_lawful : Lawful tags_algebra
tags_lawful = record {
  join_assoc = λ a b c. ap₂ tags (or_assoc a.low b.low c.low) (or_assoc a.high b.high c.high);
  join_comm = λ a b. ap₂ tags (or_comm a.low b.low) (or_comm a.high b.high);
  zero_join = λ a. refl;
  join_zero = λ a. ap₂ tags (or_zero_r a.low) (or_zero_r a.high);
  unpack_pack = λ a. refl;
  pack_unpack = λ w h. refl;
}
