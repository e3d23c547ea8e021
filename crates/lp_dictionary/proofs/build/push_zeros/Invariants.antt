use Rattle.std.proofs.Common.{◌≡◌, ◌++◌, map}
use Rattle.base_numbers.specs.Vector.{zeros}
use Rattle.lp_dictionary.proofs.build.push_zeros.Given as goal

abbrev pub invariant-loop-k : goal.invariant-loop-k
invariant-loop-k g l = map g.F.OrderedField.meaning l.entries.items ≡ map g.F.OrderedField.meaning l.fn.entries.items ++ zeros l._k
