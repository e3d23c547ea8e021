use Rattle.std.proofs.Common.{◌∙◌, ◌∷◌, [], ◌++◌, ap₂}
use Rattle.std.proofs.lemmas.List.{replicate-append-replicate}
use Rattle.solve_offers.proofs.incoming.empty_lists.Goals as goal

pub loop-list-preserved : goal.loop-list-preserved
loop-list-preserved c = c.in_ok-push.ensures.items ∙ ap₂ (λ xs x. xs ++ x ∷ []) c.loop-list.invariant c.none.ensures
    ∙ replicate-append-replicate c.loop-list._list 1 []
