use Rattle.solve_joint.proofs.group.Grouping.{AreGrouped}
use Rattle.solve_joint.proofs.group.groups_by.Given as goal

abbrev pub invariant-loop-place : goal.invariant-loop-place
invariant-loop-place l = AreGrouped l.count l.keys l.groups.items l.place
