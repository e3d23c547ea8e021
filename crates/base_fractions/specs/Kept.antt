-- A pair that is kept is its ratio's parts.
use Rattle.std.proofs.Common.{◌≡◌, ℕ, ℤ}
use Rattle.base_numbers.specs.Rational.{ratio}
use Rattle.base_numbers.proofs.rational.Parts.{num-ratio_reduced, den-ratio_reduced}
use Rattle.base_fractions.specs.Fits.{IsKept}

-- the numerator of the ratio of a kept pair is the pair's
pub kept-num : {limit n : ℤ} {d : ℕ} → IsKept limit n d → (ratio n d).num ≡ n
kept-num {limit} {n} {d} h = num-ratio_reduced n d h.lowest

-- the denominator of the ratio of a kept pair is the pair's
pub kept-den : {limit n : ℤ} {d : ℕ} → IsKept limit n d → (ratio n d).den ≡ d
kept-den {limit} {n} {d} h = den-ratio_reduced n d h.lowest
