-- Which limits a quota takes, and what a refused one returns as numbers.
use Rattle.std.specs.Prelude.{ℕ, ◌≤◌, List, [], ◌∷◌}
use Rattle.medium.specs.declared.quota.QuotaFault.{QuotaFault}
use Rattle.medium.specs.declared.quota.QuotaFault.TheVariants.{Limit}

abbrev pub IsLimit : ℕ → Type 0
IsLimit w = (1 ≤ w) × (w ≤ 64)

-- 16 and the number given, for a limit outside 1 to 64
abbrev pub quota_numbers : QuotaFault → List ℕ
quota_numbers (Limit given) = 16 ∷ given ∷ []
