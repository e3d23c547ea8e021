use Rattle.std.proofs.Common.{length, List}
use Rattle.flow_rationals.specs.declared.reading.written.Written.{Written}
use Rattle.flow_rationals.specs.Grammar.{Spells}
use Rattle.flow_rationals.proofs.found.Tree.{EquationsGoOn}
use Rattle.flow_rationals.proofs.reading.tree.equations.Given as goal

abbrev pub invariant-equations : goal.invariant-equations
invariant-equations l = (es : List Written) → Spells l.fn.symbols es → EquationsGoOn l.equations.items l.rest es

abbrev pub decreases-equations : goal.decreases-equations
decreases-equations l = length l.rest
