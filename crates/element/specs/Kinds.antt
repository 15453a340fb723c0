-- The kinds of elements that a scene can name, and how many of the three words each uses.
use Rattle.std.specs.Prelude.{◌≡◌, ℕ, Bool, false, cond, ◌&&◌, ◌==◌, nat_le, Result, MatchResult}
use Rattle.element.specs.declared.kind.Kind.{Kind}
use Rattle.element.specs.declared.kind.Kind.TheVariants.{Force, Depth, Tags}
use Rattle.element.specs.declared.kind.UnknownKind.{UnknownKind}

-- kinds run from 1 to 3
abbrev pub is_kind : ℕ → Bool
is_kind k = nat_le 1 k && nat_le k 3

-- 1 Force, 2 Depth, 3 Tags
abbrev pub used_by : ℕ → ℕ
used_by k = cond (k == 1) 3 (cond (k == 2) 1 2)

-- the number that stands for a kind
abbrev pub kind_number : Kind → ℕ
kind_number Force = 1
kind_number Depth = 2
kind_number Tags = 3

-- the kind with this number, or an error that hands back a number that is none
abbrev pub Names : ℕ → Result Kind UnknownKind → Type 0
Names n r = MatchResult r (λ k. kind_number k ≡ n) (λ e. (e.given ≡ n) × (is_kind n ≡ false))
