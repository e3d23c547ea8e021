use Rattle.solve_joint.proofs.classes.Classing.{ClassesTo}
use Rattle.solve_joint.proofs.classes.classes_by.Given as goal

abbrev pub invariant-loop-place : goal.invariant-loop-place
invariant-loop-place l = ClassesTo l.points l.homes l.nodes l.firsts.items l.classes.items l.place
