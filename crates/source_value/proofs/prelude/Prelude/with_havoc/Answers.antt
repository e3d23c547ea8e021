use Rattle.std.proofs.Common.{◌≡◌, ◌∙◌, ◌∷◌, [], rules, Some, refl, true}
use Rattle.lang_tree.specs.Tree.{havocs}
use Rattle.lang_tree.specs.DeedView.{deeds_of}
use Rattle.lang_tree.specs.declared.deed.Deed.TheVariants as deed
use Rattle.source_value.specs.Kept.{is_within}
use Rattle.source_value.proofs.kept.Kept.{both_kept, plain_kept}
use Rattle.source_value.proofs.prelude.Prelude.with_havoc.Goals as goal

pub returns-in_ok-push-in-Some-true : goal.returns-in_ok-push-in-Some-true
returns-in_ok-push-in-Some-true c = λ h ds l e.
    let s : Some (deeds_of c.in-Some-true.deeds.items) ≡ c.args.self = search rules in
    let w : is_within c.args.site.variables c.args.next ≡ true = search rules in
    both_kept c.args.site.variables h c.args.next c.in-Some-true.deeds.items (deed.Havoc c.args.var c.args.site.line ∷ [])
    c.push.new.self.items ds (havocs c.args.var c.args.site.line ∷ []) c.in_ok-push-in-Some-true.ensures.items (s ∙ e)
    (plain_kept c.args.site.variables c.args.next (deed.Havoc c.args.var c.args.site.line) (havocs c.args.var c.args.site.line) refl refl w)
