use Rattle.std.proofs.Common.{◌∙◌, ◌++◌, ◌∷◌, [], ap, sym, pos, refl, true, arith, replicate}
use Rattle.std.proofs.lemmas.Bool.{and_from}
use Rattle.lang_tree.specs.declared.cond.Rel.TheVariants.{Eq}
use Rattle.lang_tree.specs.Numbers.{are_numbers}
use Rattle.lang_tree.specs.Limits.{has_numbers}
use Rattle.lang_tree.specs.DeedView.{condition_of}
use Rattle.lang_tree.specs.Tree.{havocs, wheres}
use Rattle.source_core.specs.Forms.{constant_form, variable_form}
use Rattle.source_core.specs.Elaborated.{related, selects}
use Rattle.source_core.specs.Fits.{condition_fits, deeds_fit}
use Rattle.source_value.proofs.answers.Selected.{selected, selects_fits}
use Rattle.source_value.proofs.numbers.Lists.{zeros_then}
use Rattle.source_value.proofs.hidden.truth_number.Goals as goal

pub returns : goal.returns
returns c = λ d x s f e.
    let n = c.args.site.variables in
    let line = c.args.site.line in
    let h = d.next in
    let one = constant_form (pos 1) in
    let zero = constant_form (pos 0) in
    let i = c.in_ok-is_one.ensures in
    let j = c.in_ok-is_zero.ensures in
    let same = λ (g : _). ap (λ y. condition_fits (related Eq (variable_form y) g)) (sym s.next) in
    let t = c.in_ok-after.ensures d (selects x h one zero) s (selects_fits x h one zero f (same one ∙ i.1) (same zero ∙ j.1))
    (selected n h c.in_ok-behind.field-0 c.args.before.next x (condition_of c.in_ok-is_one.is_one) (condition_of c.in_ok-is_zero.is_zero)
    one zero c.in_ok-selected.selected s.next c.in_ok-behind.ensures i.0 j.0
    (c.in_ok-selected.ensures h x (omega (arith, s.next, c.in_ok-behind.ensures)) e)) in
    record {
      prelude = t.prelude;
      form = c.in_ok-variable_form.ensures ∙ ap variable_form s.next;
      next = t.next;
      numbers = and_from (deeds_fit (d.prelude ++ havocs h line ∷ wheres (selects x h one zero) line ∷ [])) (has_numbers (variable_form h))
          t.numbers (and_from (are_numbers (replicate h (pos 0) ++ pos 1 ∷ [])) true (zeros_then h (pos 1) refl) refl);
    }
