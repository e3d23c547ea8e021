-- Which rational numbers a type with a limit on numerator and denominator holds.
use Rattle.std.specs.Prelude.{ℕ, ℤ, pos, ◌≤ℤ◌, nat_abs, T}
use Rattle.std.specs.Coded.{Coded, code_by, coded×, coded_ℕ, coded_ℤ}
use Rattle.base_numbers.specs.Rational.{ℚ, ratio, is_reduced}
use Rattle.base_numbers.proofs.rational.Parts.{ratio-parts}

-- both parts of q are at most `limit`
pub record Fits (limit : ℤ) (q : ℚ) : Type 0 where
  pub num_fits : pos (nat_abs q.num) ≤ℤ limit
  pub den_fits : pos q.den ≤ℤ limit

-- n / d is in lowest terms, with 1 ≤ d, and both are at most `limit`
pub record IsKept (limit n : ℤ) (d : ℕ) : Type 0 where
  pub lowest : T (is_reduced n d)
  pub num_high : pos (nat_abs n) ≤ℤ limit
  pub den_high : pos d ≤ℤ limit

-- a rational number is stored as the pair of its parts
abbrev pub coded_ℚ : Coded ℚ
coded_ℚ = code_by (ℤ × ℕ) (coded× coded_ℤ coded_ℕ) (λ q. (q.num, q.den)) (λ p. ratio p.0 p.1) ratio-parts

-- the limit of `Frac`
abbrev pub long_limit : ℤ
long_limit = pos 9223372036854775807
