use Rattle.std.proofs.Common.{◌≡◌, take, map}
use Rattle.base_numbers.specs.Rational.{neg_ℚ}
use Rattle.solve_joint.proofs.row.negated.Given as goal

abbrev pub invariant-loop-coefficient : goal.invariant-loop-coefficient
invariant-loop-coefficient l = l.list.items ≡ map neg_ℚ (take l.coefficient-index l.coeffs)
