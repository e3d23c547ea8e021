use Rattle.theory_transformers.proofs.joint_problems.JointRay.{joint_outcome}
use Rattle.theory_transformers.proofs.law.joint_problems_decide.Goals as goal

pub returns : goal.returns
returns c = joint_outcome
