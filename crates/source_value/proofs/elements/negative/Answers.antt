use Rattle.std.proofs.Common.{◌∙◌, ap, sym, subst}
use Rattle.std.proofs.lemmas.Bool.{and_from, and_parts}
use Rattle.lang_tree.specs.Limits.{has_numbers}
use Rattle.source_core.specs.Forms.{opposite}
use Rattle.source_core.specs.Elaborated.{is_held, form_behind}
use Rattle.source_core.specs.Fits.{condition_fits, deeds_fit}
use Rattle.source_value.specs.declared.value.Outcome.TheVariants as outcome
use Rattle.source_value.specs.Answers.{IsCondition}
use Rattle.source_value.proofs.answers.Handed.{handed}
use Rattle.source_value.proofs.answers.Ranged.{check_unfit, ranged_stands}
use Rattle.source_value.proofs.elements.negative.Goals as goal

pub returns-in_err-holds-in-Machine : goal.returns-in_err-holds-in-Machine
returns-in_err-holds-in-Machine c = λ a s.
    let width = c.in-Machine.width in
    let same = c.in_ok-form.ensures.0 ∙ ap opposite s.form in
    handed _ _ _ c.in_err-holds-in-Machine.field-0.0 _ c.from_residual-in_err-holds-in-Machine.ensures.1
    (λ m. check_unfit c.args.site.integers c.args.site.line c.args.sign is_held (form_behind a.prelude a.next (opposite a.form))
    width c.in-Machine.is (ap (λ f. condition_fits (is_held width f)) (sym same) ∙ c.in_err-holds-in-Machine.ensures m))

pub returns : goal.returns
returns c = λ a s.
    let n = c.args.site.variables in
    let width = c.in-Machine.width in
    let same = c.in_ok-form.ensures.0 ∙ ap opposite s.form in
    let whole = form_behind a.prelude a.next (opposite a.form) in
    let p = and_parts (deeds_fit a.prelude) (has_numbers a.form) s.numbers in
    ranged_stands c.args.site.integers c.args.site.line c.args.sign is_held whole n c.in_ok-ranged-in-Machine.field-0
    width c.in-Machine.is
    (c.in_ok-ranged-in-Machine.ensures whole (is_held width (opposite a.form)) (record {
      prelude = s.prelude;
      result = ap outcome.Form same;
      next = s.next;
      numbers = and_from (deeds_fit a.prelude) (has_numbers (opposite a.form)) p.0
          (ap (λ f. has_numbers (opposite f)) (sym s.form) ∙ c.in_ok-form.ensures.1);
    }) (subst (λ f. IsCondition c.in_ok-holds-in-Machine.holds (is_held width f)) same c.in_ok-holds-in-Machine.ensures))
