use Rattle.std.proofs.Common.{◌≡◌, map, take}
use Rattle.base_numbers.specs.Rational.{whole}
use Rattle.cert_fitted.proofs.dense.wholes.Given as goal

abbrev pub invariant-loop-number : goal.invariant-loop-number
invariant-loop-number l = l.list.items ≡ map whole (take l.number-index l.row)
