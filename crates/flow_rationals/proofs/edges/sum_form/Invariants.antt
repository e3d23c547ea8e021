use Rattle.std.proofs.Common.{◌≡◌, take, map, neg_ℤ}
use Rattle.flow_rationals.proofs.edges.sum_form.Given as goal

abbrev pub invariant-loop-coeff : goal.invariant-loop-coeff
invariant-loop-coeff l = l.list.items ≡ map neg_ℤ (take l.coeff-index l.coeff-items)
