use Rattle.solve_joint.proofs.layout.LaidOut.{IsLaid}
use Rattle.solve_joint.proofs.layout.layout.Given as goal

abbrev pub invariant-loop-place : goal.invariant-loop-place
invariant-loop-place l = IsLaid l.system l.pick l.list l.rises.items l.offset l.place
