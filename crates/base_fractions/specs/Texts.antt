-- The canonical texts of fractions.
use Rattle.std.specs.Prelude.{◌==◌, ◌++◌, ◌∷◌, ℕ, ℤ, List, [], decimal, if◌then◌else◌}
use Rattle.std.specs.Fmt.{signed_decimal}
use Rattle.base_numbers.specs.Rational.{ℚ}

-- the numerator, and where the denominator is not 1 a slash (47) and the denominator
abbrev pub parts_text : ℤ → ℕ → List ℕ
parts_text num den = signed_decimal num ++ (if den == 1 then [] else 47 ∷ decimal den)

-- the text of a number
abbrev pub frac_text : ℚ → List ℕ
frac_text q = parts_text q.num q.den
