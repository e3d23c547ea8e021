use Rattle.std.proofs.Common.{◌≡◌, get_or}
use Rattle.base_numbers.specs.Rational.{zero_ℚ}
use Rattle.base_numbers.specs.Extended.{fin}
use Rattle.solve_rounds.specs.Putting.{puts}
use Rattle.solve_rounds.proofs.putting.put_numbers.Given as goal

abbrev pub invariant-loop-k : goal.invariant-loop-k
invariant-loop-k l = l.bounds ≡ puts (λ k. fin (get_or l.to k zero_ℚ)) l.list l.initial.bounds l.k
