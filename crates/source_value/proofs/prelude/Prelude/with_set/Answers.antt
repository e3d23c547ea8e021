use Rattle.std.proofs.Common.{◌∙◌, ◌&&◌, ◌∷◌, [], refl}
use Rattle.std.proofs.lemmas.Bool.{and_parts}
use Rattle.lang_tree.specs.Tree.{sets}
use Rattle.lang_tree.specs.DeedView.{deeds_of}
use Rattle.lang_tree.specs.declared.deed.Deed.TheVariants as deed
use Rattle.source_value.specs.Kept.{is_within, have_small}
use Rattle.source_value.proofs.kept.Kept.{both_kept, kept_some, plain_kept}
use Rattle.source_value.proofs.prelude.Prelude.with_set.Goals as goal

pub returns-in_ok-push-in-Some : goal.returns-in_ok-push-in-Some
returns-in_ok-push-in-Some c = λ n h ds e.
    let s = c.in-Some.ensures ∙ e in
    let p = kept_some (is_within n h && have_small ds) (deeds_of c.in-Some.deeds.items) ds s in
    both_kept n h h c.in-Some.deeds.items (deed.Set c.args.var c.args.form c.args.site.line ∷ []) c.push.new.self.items ds
    (sets c.args.var c.args.form c.args.site.line ∷ []) c.in_ok-push-in-Some.ensures.items s
    (plain_kept n h (deed.Set c.args.var c.args.form c.args.site.line) (sets c.args.var c.args.form c.args.site.line) refl refl
    (and_parts (is_within n h) (have_small ds) p.0).0)
