use Rattle.lp_dictionary.specs.Exact.{exact}
use Rattle.lp_dictionary.specs.Sides.{IsLeastSoFar}
use Rattle.lp_dictionary.proofs.sides.lowest_side.Given as goal

abbrev pub invariant-loop-i : goal.invariant-loop-i
invariant-loop-i g l = IsLeastSoFar (exact g.F.OrderedField.meaning l.problem).side l.i (g.F.OrderedField.meaning l.least) l.lowest
