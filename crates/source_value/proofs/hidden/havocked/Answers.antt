use Rattle.std.proofs.Common.{◌∙◌, ◌++◌, ◌∷◌, [], suc, ap, sym, pos, refl, true, replicate, append_assoc}
use Rattle.std.proofs.lemmas.Bool.{and_from}
use Rattle.lang_tree.specs.Numbers.{are_numbers}
use Rattle.lang_tree.specs.Limits.{has_numbers}
use Rattle.lang_tree.specs.Tree.{havocs}
use Rattle.source_core.specs.Forms.{variable_form}
use Rattle.source_core.specs.Elaborated.{held}
use Rattle.source_core.specs.Fits.{deeds_fit}
use Rattle.source_value.specs.Kept.{kept_deeds}
use Rattle.source_value.proofs.numbers.Lists.{zeros_then}
use Rattle.source_value.proofs.hidden.havocked.Goals as goal

pub returns : goal.returns
returns c = λ d s.
    let n = c.args.site.variables in
    let line = c.args.site.line in
    let integers = c.args.site.integers in
    let h = d.next in
    let t = c.in_ok-taken.ensures d s in
    let u = c.in_ok-after.ensures (record { prelude = d.prelude ++ havocs h line ∷ []; next = suc h }) t in
    let whole = append_assoc d.prelude (havocs h line ∷ []) (held integers line c.args.before.next)
    ∙ ap (λ v. d.prelude ++ havocs h line ∷ held integers line v) s.next in
    record {
      prelude = u.prelude ∙ ap (kept_deeds n (suc h)) whole;
      form = c.in_ok-form.ensures ∙ ap variable_form s.next;
      next = u.next;
      numbers = and_from (deeds_fit (d.prelude ++ havocs h line ∷ held integers line h)) (has_numbers (variable_form h))
          (ap deeds_fit (sym whole) ∙ u.numbers)
          (and_from (are_numbers (replicate h (pos 0) ++ pos 1 ∷ [])) true (zeros_then h (pos 1) refl) refl);
    }
