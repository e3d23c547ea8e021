use Rattle.std.proofs.Common.{ℕ, ◌<◌, get_or}
use Rattle.base_numbers.specs.Rational.{zero_ℚ, ◌≤ℚ◌}
use Rattle.cert_checker.proofs.multipliers.none_negative.Given as goal

abbrev pub invariant-loop-multiplier : goal.invariant-loop-multiplier
invariant-loop-multiplier l = (i : ℕ) → i < l.multiplier-index → zero_ℚ ≤ℚ get_or l.multipliers i zero_ℚ
