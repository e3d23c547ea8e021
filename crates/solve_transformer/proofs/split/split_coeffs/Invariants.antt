use Rattle.std.proofs.Common.{◌≡◌, take}
use Rattle.solve_transformer.specs.Splits.{pairs}
use Rattle.solve_transformer.proofs.split.split_coeffs.Given as goal

abbrev pub invariant-loop-coeff : goal.invariant-loop-coeff
invariant-loop-coeff l = l.list ≡ pairs (take l.coeff-index l.coeffs)
