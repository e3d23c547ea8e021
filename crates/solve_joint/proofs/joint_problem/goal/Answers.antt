use Rattle.std.proofs.Common.{◌∙◌, ◌++◌, ◌∷◌, [], ap₂, sym}
use Rattle.theory_transformers.specs.JointProblems.{ones}
use Rattle.solve_joint.proofs.row.RowParts.{ones_more}
use Rattle.solve_joint.proofs.joint_problem.goal.Goals as goal

pub loop-unknown-init : goal.loop-unknown-init
unfolding ones
loop-unknown-init c = c.new-goal.ensures

pub loop-unknown-preserved : goal.loop-unknown-preserved
loop-unknown-preserved c = c.in_ok-push.ensures.pushed ∙ ap₂ (λ xs x. xs ++ x ∷ []) c.loop-unknown.invariant c.one.ensures.value
    ∙ sym (ones_more c.loop-unknown._unknown)
