use Rattle.solve_joint.proofs.cutting.Blocking.{AreSet}
use Rattle.solve_joint.proofs.cutting.Cutting.leave.Given as goal

abbrev pub invariant-loop-member : goal.invariant-loop-member
invariant-loop-member l = AreSet l.initial.gone l.member-items l.gone l.member-index
