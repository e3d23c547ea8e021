use Rattle.std.proofs.Common.{◌∙◌, ℤ, List, ap, refl, sym, subst}
use Rattle.std.proofs.lemmas.Result.{err_from_is_err_and}
use Rattle.base_numbers.specs.Rational.{whole}
use Rattle.flow_systems.proofs.states.Summed.{numbers_at, number_same}
use Rattle.base_fractions.specs.Fits.{long_limit}
use Rattle.base_fractions.specs.Operation.{first_wide}
use Rattle.theory_validity.specs.Words.{combined}
use Rattle.solve_composition.specs.Composed.{dense}
use Rattle.solve_composition.specs.Operations.{row_composition}
use Rattle.flow_systems.specs.Faults.{IsFaultOf}
use Rattle.solve_composition.proofs.operations.Rows.{form_refused, last_refused, form_composed}
use Rattle.solve_composition.proofs.form.compose_form.Goals as goal

pub returns-in_err-row : goal.returns-in_err-row
returns-in_err-row c = λ forms e.
    let p = err_from_is_err_and c.from_residual.result c.from_residual.ensures.1 in
    rw (p.1, p.2)
    (form_refused c.args.width c.args.form.now forms c.in_err-row.field-0.0
    (subst (λ (row : List ℤ). IsFaultOf (row_composition c.args.width forms row) c.in_err-row.field-0.0) c.as_slice.ensures.list
    (c.in_err-row.ensures forms e)))

pub returns-in_err-constant : goal.returns-in_err-constant
returns-in_err-constant c = λ forms e.
    let p = err_from_is_err_and c.from_residual-in_err-constant.result c.from_residual-in_err-constant.ensures.1 in
    let row = c.in_ok-row.ensures forms e in
    rw (p.1, p.2)
    (last_refused c.args.width c.args.form.now forms c.in_ok-row.row c.fraction.result
    (row.0 ∙ ap (λ (cs : List ℤ). dense c.args.width (combined cs forms)) c.as_slice.ensures.list)
    (c.fraction.ensures ∙ ap whole (number_same c.args.form.now.constant
    (numbers_at c.args.form.now c.requires.form).1))
    (ap (λ (cs : List ℤ). first_wide long_limit (row_composition c.args.width forms cs)) (sym c.as_slice.ensures.list) ∙ row.1)
    c.in_err-constant.field-0.0 c.in_err-constant.ensures)

pub returns : goal.returns
returns c = λ forms e.
    let row = c.in_ok-row.ensures forms e in
    form_composed c.args.width c.args.form.now forms c.in_ok-row.row c.fraction.result
    (row.0 ∙ ap (λ (cs : List ℤ). dense c.args.width (combined cs forms)) c.as_slice.ensures.list)
    (c.fraction.ensures ∙ ap whole (number_same c.args.form.now.constant
    (numbers_at c.args.form.now c.requires.form).1))
    (ap (λ (cs : List ℤ). first_wide long_limit (row_composition c.args.width forms cs)) (sym c.as_slice.ensures.list) ∙ row.1)
    c.in_ok-row.row.coeffs c.in_ok-constant.constant refl c.in_ok-constant.ensures
