use Rattle.std.proofs.Common.{◌∙◌, ◌∷◌, ◌++◌, [], ap, ap₂, sym}
use Rattle.std.proofs.lemmas.List.{map_more}
use Rattle.std.proofs.lemmas.Result.{err_from_is_err_and}
use Rattle.base_fractions.specs.Operation.{operation_of}
use Rattle.theory_validity.specs.Words.{val}
use Rattle.solve_composition.specs.ComposedLaws.{form_of}
use Rattle.solve_composition.proofs.faults.Passed.{passed_more, passed_wide}
use Rattle.solve_transformer.specs.Places.{form_reading}
use Rattle.solve_transformer.proofs.place.forms_at.Goals as goal

pub returns-in_err-form_at : goal.returns-in_err-form_at
returns-in_err-form_at c =
    let p = err_from_is_err_and c.from_residual-in_err-form_at.result c.from_residual-in_err-form_at.ensures.1 in
    rw (p.1, p.2)
    (passed_wide (form_reading c.args.word.now) c.args.forms.now c.loop-form.form-index c.loop-form.invariant.passed c.form-item.result
    c.loop-form-test.true c.form-item.is (operation_of (λ q. q) c.in_err-form_at.field-0.0) c.in_err-form_at.ensures)

pub loop-form-preserved : goal.loop-form-preserved
loop-form-preserved c = record {
  list = c.in_ok-push.ensures.items
      ∙ ap₂ (λ xs x. xs ++ x ∷ []) c.loop-form.invariant.list
      (c.in_ok-form_at.ensures.0 ∙ ap (λ f. val (form_of f) c.args.word.now) c.form-item.is)
      ∙ sym (map_more (λ f. val (form_of f) c.args.word.now) c.args.forms.now c.loop-form.form-index c.form-item.result
      c.loop-form-test.true);
  passed = passed_more (form_reading c.args.word.now) c.args.forms.now c.loop-form.form-index c.loop-form.invariant.passed
      c.form-item.result c.loop-form-test.true c.form-item.is c.in_ok-form_at.ensures.1;
}
