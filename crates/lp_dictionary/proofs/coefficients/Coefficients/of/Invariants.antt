use Rattle.std.proofs.Common.{◌≡◌, map, take}
use Rattle.lp_dictionary.proofs.coefficients.Coefficients.of.Given as goal

abbrev pub invariant-loop-value : goal.invariant-loop-value
invariant-loop-value g l = l.coefficients ≡ map g.F.OrderedField.meaning (take l.value-index l.values)
