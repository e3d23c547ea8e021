use Rattle.std.proofs.Common.{◌∙◌, ◌+◌, ◌++◌, ◌∷◌, [], ap, sym}
use Rattle.solve_joint.proofs.layout.LaidOut.{columns_push}
use Rattle.solve_joint.proofs.layout.columns.Goals as goal

pub loop-i-preserved : goal.loop-i-preserved
loop-i-preserved c = c.in_ok-push.ensures.items ∙ ap (λ xs. xs ++ (c.args.first + c.loop-i.i + c.loop-i.i) ∷ []) c.loop-i.invariant
    ∙ sym (columns_push c.args.first c.loop-i.i)
