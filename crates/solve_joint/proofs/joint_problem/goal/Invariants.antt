use Rattle.std.proofs.Common.{◌≡◌}
use Rattle.theory_transformers.specs.JointProblems.{ones}
use Rattle.solve_joint.proofs.joint_problem.goal.Given as goal

abbrev pub invariant-loop-unknown : goal.invariant-loop-unknown
invariant-loop-unknown l = l.goal ≡ ones l._unknown
