use Rattle.std.proofs.Common.{◌≡◌}
use Rattle.solve_joint.specs.Layouts.{columns_from}
use Rattle.solve_joint.proofs.layout.columns.Given as goal

abbrev pub invariant-loop-i : goal.invariant-loop-i
invariant-loop-i l = l.list.items ≡ columns_from l.first l.i
