use Rattle.std.proofs.Common.{◌≡◌, ◌≤◌, ◌∷◌, [], length, None, Some, subst}
use Rattle.std.proofs.lemmas.Result.{err_from_is_err_and}
use Rattle.base_numbers.specs.Rational.{ℚ}
use Rattle.base_fractions.specs.Fits.{long_limit}
use Rattle.base_fractions.specs.Operation.{first_wide, operation_of}
use Rattle.lang_tree.specs.declared.form.Form.{Form}
use Rattle.flow_systems.specs.Constants.{form_with}
use Rattle.flow_systems.specs.FreeValues.{free_count}
use Rattle.flow_systems.specs.States.{RationalState, valueℚ}
use Rattle.flow_systems.specs.Sums.{form_operations}
use Rattle.solve_raise.proofs.carry.Carrying.{assign_made, assign_wide, havoc_made}
use Rattle.solve_raise.proofs.carry.step.Goals as goal

-- the value of a form, and no operation of its sum is wide
abbrev Sums : Form → RationalState → ℚ → Type 0
Sums form x v = (v ≡ valueℚ form x) × (first_wide long_limit (form_operations form x) ≡ None)

pub returns-in_err-value-in-Assign : goal.returns-in_err-value-in-Assign
returns-in_err-value-in-Assign c =
    let p = err_from_is_err_and c.from_residual.result c.from_residual.ensures.1 in
    let form = form_with c.args.constants c.in-Assign.form in
    rw (p.1, p.2, c.in-Assign.is) (assign_wide c.args.constants c.args.state.now c.args.free.now c.in-Assign.form c.in-Assign.var
    c.in_err-value-in-Assign.field-0.0
    (subst (λ x. first_wide long_limit (form_operations form x) ≡ Some (operation_of (λ (q : ℚ). q) c.in_err-value-in-Assign.field-0.0))
    c.as_slice.ensures c.in_err-value-in-Assign.ensures))

pub returns-in_ok-value-in-Assign : goal.returns-in_ok-value-in-Assign
returns-in_ok-value-in-Assign c =
    let form = form_with c.args.constants c.in-Assign.form in
    let is = subst (λ x. Sums form x c.in_ok-value-in-Assign.value) c.as_slice.ensures c.in_ok-value-in-Assign.ensures in
    rw (c.in-Assign.is, c.put.ensures) (assign_made c.args.constants c.args.state.now c.args.free.now c.in-Assign.form c.in-Assign.var
    c.in_ok-value-in-Assign.value is.0 is.1)

pub returns-in-Havoc : goal.returns-in-Havoc
returns-in-Havoc c =
    let one = subst (λ action. free_count (action ∷ []) ≤ length c.args.free.now) c.in-Havoc.is c.requires.free in
    rw (c.in-Havoc.is, c.put-in-Havoc.ensures) (havoc_made c.args.constants c.args.state.now c.args.free.now c.in-Havoc.var
    c.index-free-0.result c.index-free-0.result one c.index-free-0.is)
