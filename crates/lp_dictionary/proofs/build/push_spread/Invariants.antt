use Rattle.std.proofs.Common.{◌≡◌, ◌++◌, map, take}
use Rattle.lp_dictionary.specs.Build.{signed_by}
use Rattle.lp_dictionary.proofs.build.push_spread.Given as goal

abbrev pub invariant-loop-col : goal.invariant-loop-col
invariant-loop-col g l =
    map g.F.OrderedField.meaning l.entries.items ≡ map g.F.OrderedField.meaning l.fn.entries.items
    ++ map (signed_by l.negated) (take l.col l.coefficients)
