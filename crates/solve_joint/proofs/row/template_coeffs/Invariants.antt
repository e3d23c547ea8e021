use Rattle.std.proofs.Common.{◌≡◌, take, map}
use Rattle.base_numbers.specs.Rational.{whole}
use Rattle.solve_joint.proofs.row.template_coeffs.Given as goal

abbrev pub invariant-loop-number : goal.invariant-loop-number
invariant-loop-number l = l.coeffs.items ≡ map whole (take l.number-index l.row)
