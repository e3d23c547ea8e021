-- Factors that are 1 or -1.
use Rattle.std.specs.Prelude.{◌≡◌, Bool, true, false, Option, Some, None}
use Rattle.base_numbers.specs.Rational.{ℚ, one_ℚ, neg_ℚ}

-- the number is -1 if it is negated, else 1
abbrev pub IsUnitBy : ℚ → Bool → Type 0
IsUnitBy q true = neg_ℚ q ≡ one_ℚ
IsUnitBy q false = q ≡ one_ℚ

-- the number is 1 or -1, if that is known
abbrev pub IsUnit : ℚ → Option Bool → Type 0
IsUnit q None = Unit {0}
IsUnit q (Some negated) = IsUnitBy q negated
