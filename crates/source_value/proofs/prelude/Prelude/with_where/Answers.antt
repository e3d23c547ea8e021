use Rattle.std.proofs.Common.{◌≡◌, ◌∙◌, ◌∷◌, [], rules, Some, refl}
use Rattle.lang_tree.specs.Tree.{wheres}
use Rattle.lang_tree.specs.DeedView.{condition_of, deeds_of}
use Rattle.lang_tree.specs.declared.deed.Deed.TheVariants as deed
use Rattle.source_value.proofs.kept.Kept.{both_kept, tested_kept}
use Rattle.source_value.proofs.prelude.Prelude.with_where.Goals as goal

pub returns-in_ok-push-in-Some-Some : goal.returns-in_ok-push-in-Some-Some
returns-in_ok-push-in-Some-Some c = λ h k ds x l e f.
    let s : Some (deeds_of c.in-Some-Some.deeds.items) ≡ c.args.self = search rules in
    let t : Some (condition_of c.in-Some-Some.cond) ≡ c.args.truth = search rules in
    both_kept c.args.site.variables h k c.in-Some-Some.deeds.items (deed.Where c.in-Some-Some.cond c.args.site.line ∷ [])
    c.push.new.self.items ds (wheres x c.args.site.line ∷ [])
    c.in_ok-push-in-Some-Some.ensures.items (s ∙ e)
    (tested_kept c.args.site.variables k x (wheres x c.args.site.line) (condition_of c.in-Some-Some.cond)
    (deed.Where c.in-Some-Some.cond c.args.site.line)
    (λ z. wheres z c.args.site.line) refl refl refl (t ∙ f))
