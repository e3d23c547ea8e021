use Rattle.std.proofs.Common.{◌∙◌, ◌++◌, ◌∷◌, [], ap₂, true, refl, pos, arith}
use Rattle.std.proofs.lemmas.Bool.{and_left, and_from}
use Rattle.lang_tree.specs.declared.cond.Rel.TheVariants.{Ne}
use Rattle.lang_tree.specs.declared.check.CheckKind.TheVariants.{Divisor}
use Rattle.lang_tree.specs.Limits.{has_numbers}
use Rattle.lang_tree.specs.Tree.{havocs}
use Rattle.source_core.specs.Forms.{constant_form, variable_form}
use Rattle.source_core.specs.Elaborated.{related, checked, held}
use Rattle.source_core.specs.Fits.{condition_fits, deeds_fit}
use Rattle.source_value.specs.Kept.{kept_condition}
use Rattle.source_value.proofs.answers.Parts.{deeds_fit_both, first_unfit, last_unfit}
use Rattle.source_value.proofs.answers.Handed.{handed}
use Rattle.source_value.proofs.operation.unless_zero.Goals as goal

pub returns-in_err-not_zero : goal.returns-in_err-not_zero
returns-in_err-not_zero c = λ d s.
    let line = c.args.site.line in
    let check = checked line Divisor c.args.sign (related Ne c.args.divisor.now (constant_form (pos 0))) in
    let taken = havocs d.next line ∷ held c.args.site.integers line d.next in
    handed _ _ _ c.in_err-not_zero.field-0.0 _ c.from_residual.ensures.1
    (λ n. and_left (deeds_fit ((d.prelude ++ check ∷ []) ++ taken)) (has_numbers (variable_form d.next))
    (first_unfit (d.prelude ++ check ∷ []) taken (last_unfit d.prelude check (c.in_err-not_zero.ensures n))))

pub returns : goal.returns
returns c = λ d s.
    let n = c.args.site.variables in
    let line = c.args.site.line in
    let condition = related Ne c.args.divisor.now (constant_form (pos 0)) in
    let check = checked line Divisor c.args.sign condition in
    let i = c.in_ok-not_zero.ensures in
    c.in_ok-hidden_behind.ensures (record { prelude = d.prelude ++ check ∷ []; next = d.next })
    (record {
      prelude = c.in_ok-with_check.ensures d.next d.next d.prelude condition (omega arith) s.prelude
          (c.of-truth.ensures ∙ ap₂ (kept_condition n) s.next i.0);
      next = s.next;
      numbers = deeds_fit_both d.prelude (check ∷ []) s.numbers (and_from (condition_fits condition) true i.1 refl);
    })
