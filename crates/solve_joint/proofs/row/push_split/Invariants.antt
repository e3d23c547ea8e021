use Rattle.std.proofs.Common.{◌≡◌, ◌++◌, take}
use Rattle.theory_transformers.specs.JointProblems.{split_list}
use Rattle.solve_joint.proofs.row.push_split.Given as goal

abbrev pub invariant-loop-coefficient : goal.invariant-loop-coefficient
invariant-loop-coefficient l = l.row ≡ l.initial.row ++ split_list (take l.coefficient-index l.coeffs)
