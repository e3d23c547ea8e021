use Rattle.std.proofs.Common.{◌∙◌, ◌∷◌, [], ◌++◌, ap₂}
use Rattle.std.proofs.lemmas.List.{replicate-append-replicate}
use Rattle.solve_joint.proofs.group.empty_groups.Goals as goal

pub loop-group-preserved : goal.loop-group-preserved
loop-group-preserved c = c.in_ok-push.ensures.items ∙ ap₂ (λ xs x. xs ++ x ∷ []) c.loop-group.invariant c.none.ensures
    ∙ replicate-append-replicate c.loop-group._group 1 []
