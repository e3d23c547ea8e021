-- What the sums over a state of forms answer.
use Rattle.std.specs.Prelude.{◌≡◌, ℕ, List, map, get_or, None, Some, Result, MatchResult}
use Rattle.base_numbers.specs.Rational.{ℚ, zero_ℚ}
use Rattle.base_fractions.specs.declared.wide.Wide.{Wide}
use Rattle.base_fractions.specs.Fits.{Fits, long_limit}
use Rattle.base_fractions.specs.Operation.{Operation, first_wide, operation_of}
use Rattle.solve_composition.specs.declared.affine.Affine.{Affine}

-- the coefficients that forms have at a column
abbrev pub dense_column : ℕ → List Affine → List ℚ
dense_column k state = map (λ f. get_or f.coeffs k zero_ℚ) state

-- the constants of forms
abbrev pub dense_constants : List Affine → List ℚ
dense_constants state = map (λ f. f.constant) state

-- this number, which fits, where none of the operations is wide, and the first that is where one is
abbrev pub FittingSum : ℚ → List Operation → Result ℚ (Wide ℚ) → Type 0
FittingSum v operations result =
    MatchResult result (λ r. (r ≡ v) × (first_wide long_limit operations ≡ None) × Fits long_limit r)
    (λ w. first_wide long_limit operations ≡ Some (operation_of (λ q. q) w))
