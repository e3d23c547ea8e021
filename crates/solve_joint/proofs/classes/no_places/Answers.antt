use Rattle.std.proofs.Common.{◌∙◌, ◌∷◌, [], ◌++◌, ap}
use Rattle.std.specs.Prelude.{None}
use Rattle.std.proofs.lemmas.List.{replicate-append-replicate}
use Rattle.solve_joint.proofs.classes.no_places.Goals as goal

pub loop-place-preserved : goal.loop-place-preserved
loop-place-preserved c = c.in_ok-push.ensures.items ∙ ap (λ xs. xs ++ None ∷ []) c.loop-place.invariant
    ∙ replicate-append-replicate c.loop-place._place 1 None
