use Rattle.std.proofs.Common.{◌<◌, ℕ, get_or}
use Rattle.base_numbers.specs.Rational.{zero_ℚ}
use Rattle.base_numbers.specs.Extended.{neg_inf, fin, ◌<ᴱ◌}
use Rattle.solve_rounds.proofs.guessed.all_exceed.Given as goal

abbrev pub invariant-loop-place : goal.invariant-loop-place
invariant-loop-place l = (j : ℕ) → j < l.place → get_or l.bounds (get_or l.list j 0) neg_inf <ᴱ fin (get_or l.to j zero_ℚ)
