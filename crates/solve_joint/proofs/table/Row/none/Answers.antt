use Rattle.std.proofs.Common.{◌∙◌, ◌∷◌, [], ◌++◌, false, ap}
use Rattle.std.proofs.lemmas.List.{replicate-append-replicate}
use Rattle.solve_joint.proofs.table.Row.none.Goals as goal

pub loop-cell-preserved : goal.loop-cell-preserved
loop-cell-preserved c = c.in_ok-push.ensures.items ∙ ap (λ xs. xs ++ false ∷ []) c.loop-cell.invariant
    ∙ replicate-append-replicate c.loop-cell._cell 1 false
