use Rattle.std.proofs.Common.{◌∙◌, ◌++◌, ◌∷◌, [], ap, sym}
use Rattle.std.proofs.lemmas.List.{append-nil}
use Rattle.theory_transformers.specs.JointProblems.{split_list}
use Rattle.solve_joint.proofs.row.RowParts.{split_more}
use Rattle.solve_joint.proofs.row.push_split.Goals as goal

pub loop-coefficient-init : goal.loop-coefficient-init
unfolding split_list
loop-coefficient-init c = sym (append-nil c.args.row.now)

pub loop-coefficient-preserved : goal.loop-coefficient-preserved
loop-coefficient-preserved c =
    let i = c.loop-coefficient.coefficient-index in
    let coeffs = c.args.coeffs.now in
    c.in_ok-push-2.ensures.pushed ∙ ap (λ xs. xs ++ c.negate.result ∷ [])
    (c.in_ok-push.ensures.pushed ∙ ap (λ xs. xs ++ c.coefficient-item.result ∷ []) c.loop-coefficient.invariant)
    ∙ split_more coeffs i c.coefficient-item.result c.negate.result c.args.row.now c.loop-coefficient-test.true c.coefficient-item.is
    c.negate.ensures.value
