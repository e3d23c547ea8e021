-- The least side so far.
use Rattle.std.specs.Prelude.{◌≡◌, ℕ, ◌<◌, Option, Some, None}
use Rattle.base_numbers.specs.Rational.{ℚ, zero_ℚ, ◌≤ℚ◌, ◌<ℚ◌}

-- of the first n numbers x is the least below 0, first met at the place, or 0 where none is below 0
abbrev pub IsLeastSoFar : (ℕ → ℚ) → ℕ → ℚ → Option ℕ → Type 0
IsLeastSoFar f n x None = (x ≡ zero_ℚ) × ((k : ℕ) → k < n → zero_ℚ ≤ℚ f k)
IsLeastSoFar f n x (Some r) = (r < n) × (f r ≡ x) × (x <ℚ zero_ℚ) × ((k : ℕ) → k < n → x ≤ℚ f k) × ((k : ℕ) → k < r → x <ℚ f k)
