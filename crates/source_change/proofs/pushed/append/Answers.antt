use Rattle.std.proofs.Common.{◌∙◌, ◌++◌, ◌∷◌, [], ap, sym, append_assoc}
use Rattle.lang_tree.specs.View.{deed_of, deeds_of}
use Rattle.source_change.proofs.lists.Deeds.{deeds_append}
use Rattle.source_change.proofs.pushed.append.Goals as goal

pub loop-deed-preserved : goal.loop-deed-preserved
loop-deed-preserved c =
    let d = c.in-Some.deed in
    ap deeds_of c.in_ok-push.ensures.items ∙ deeds_append c.loop-deed.deeds.items (d ∷ [])
    ∙ ap (λ ds. ds ++ deed_of d ∷ []) c.loop-deed.invariant
    ∙ append_assoc (deeds_of c.args.deeds.now.items) (deeds_of c.loop-deed.yielded) (deed_of d ∷ [])
    ∙ ap (λ ds. deeds_of c.args.deeds.now.items ++ ds) (sym (deeds_append c.loop-deed.yielded (d ∷ [])))
