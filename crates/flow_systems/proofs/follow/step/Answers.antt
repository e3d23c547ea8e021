use Rattle.std.proofs.Common.{◌≡◌, ◌∙◌, ℕ, ◌≤◌, List, [], ◌∷◌, length, get_or, drop, None, Some, refl, sym, subst, true≢false, arith}
use Rattle.std.proofs.lemmas.Result.{err_from_is_err_and}
use Rattle.base_numbers.specs.Rational.{ℚ, zero_ℚ, ◌≤ℚ◌}
use Rattle.base_fractions.specs.Fits.{long_limit}
use Rattle.base_fractions.specs.Operation.{first_wide, operation_of}
use Rattle.lang_tree.specs.declared.form.Form.{Form}
use Rattle.lang_tree.specs.Meaning.{put}
use Rattle.flow_edges.specs.declared.edge.Action.{Action}
use Rattle.flow_edges.specs.declared.edge.Action.TheVariants.{Havoc}
use Rattle.flow_systems.specs.FreeValues.{free_count}
use Rattle.flow_systems.specs.TraceTests.{LeadsOn}
use Rattle.flow_systems.specs.States.{RationalState, valueℚ}
use Rattle.flow_systems.specs.Sums.{form_operations}
use Rattle.flow_systems.specs.Constants.{form_with}
use Rattle.flow_systems.proofs.fit_tests.Tested.{test_le}
use Rattle.flow_systems.proofs.trace_tests.Traced.{guard_refused, assign_refused, guard_passed, guard_failed, assigned}
use Rattle.flow_systems.proofs.follow.WithConstants.{guard_with, assign_with, havoc_with}
use Rattle.flow_systems.proofs.follow.step.Goals as goal

-- a free assignment leads on from the state with the first free value in its place
freed : (var : ℕ) (x : RationalState) (free : List ℚ) (q : ℚ) → 1 ≤ length free → q ≡ get_or free 0 q → (rest : List Action)
    → LeadsOn (Havoc var ∷ rest) x free rest (put zero_ℚ x var q) (drop 1 free)
freed var x [] q l e rest = absurd (omega (arith, l))
freed var x (r ∷ free) q l e rest =
    subst (λ u. LeadsOn (Havoc var ∷ rest) x (r ∷ free) rest (put zero_ℚ x var u) free) (sym e)
    (record { ends = λ y. (λ f. f, λ f. f); first = λ row. refl })

-- the value of a form, and no operation of its sum is wide
abbrev Sums : Form → RationalState → ℚ → Type 0
Sums form x v = (v ≡ valueℚ form x) × (first_wide long_limit (form_operations form x) ≡ None)

pub returns-in_err-value-in-Guard : goal.returns-in_err-value-in-Guard
returns-in_err-value-in-Guard c =
    let p = err_from_is_err_and c.from_residual.result c.from_residual.ensures.1 in
    let form = form_with c.args.constants c.in-Guard.form in
    rw (p.1, p.2, c.in-Guard.is, guard_with c.args.constants c.in-Guard.form)
    (guard_refused form c.args.state.now c.args.free.now (operation_of (λ (q : ℚ). q) c.in_err-value-in-Guard.field-0.0)
    (subst (λ x. first_wide long_limit (form_operations form x) ≡ Some (operation_of (λ (q : ℚ). q) c.in_err-value-in-Guard.field-0.0))
    c.as_slice.ensures c.in_err-value-in-Guard.ensures))

pub returns-in_err-value-in-Assign : goal.returns-in_err-value-in-Assign
returns-in_err-value-in-Assign c =
    let p = err_from_is_err_and c.from_residual-in_err-value-in-Assign.result c.from_residual-in_err-value-in-Assign.ensures.1 in
    let form = form_with c.args.constants c.in-Assign.form in
    rw (p.1, p.2, c.in-Assign.is, assign_with c.args.constants c.in-Assign.var c.in-Assign.form)
    (assign_refused form c.args.state.now c.args.free.now c.in-Assign.var (operation_of (λ (q : ℚ). q) c.in_err-value-in-Assign.field-0.0)
    (subst (λ x. first_wide long_limit (form_operations form x) ≡ Some (operation_of (λ (q : ℚ). q) c.in_err-value-in-Assign.field-0.0))
    c.as_slice-in-Assign.ensures c.in_err-value-in-Assign.ensures))

pub returns-then-le : goal.returns-then-le
returns-then-le c =
    let t = test_le c.in_ok-value-in-Guard.value c.zero.result c.le.result c.le.ensures in
    let form = form_with c.args.constants c.in-Guard.form in
    let is = subst (λ x. Sums form x c.in_ok-value-in-Guard.value) c.as_slice.ensures c.in_ok-value-in-Guard.ensures in
    rw (c.in-Guard.is, guard_with c.args.constants c.in-Guard.form) (
      refl,
      guard_passed form c.args.state.now c.args.free.now c.in_ok-value-in-Guard.value is.0 is.1
          (subst (λ y. c.in_ok-value-in-Guard.value ≤ℚ y) c.zero.ensures.value (t.0 c.if-le.true)),
    )

pub returns-else-le : goal.returns-else-le
returns-else-le c =
    let t = test_le c.in_ok-value-in-Guard.value c.zero.result c.le.result c.le.ensures in
    let form = form_with c.args.constants c.in-Guard.form in
    let is = subst (λ x. Sums form x c.in_ok-value-in-Guard.value) c.as_slice.ensures c.in_ok-value-in-Guard.ensures in
    rw (c.in-Guard.is, guard_with c.args.constants c.in-Guard.form)
    (guard_failed form c.args.state.now c.args.free.now c.in_ok-value-in-Guard.value is.0 is.1
    (λ l. true≢false (sym (t.1 (subst (λ y. c.in_ok-value-in-Guard.value ≤ℚ y) (sym c.zero.ensures.value) l)) ∙ c.if-le.false)))

pub returns-in_ok-value-in-Assign : goal.returns-in_ok-value-in-Assign
returns-in_ok-value-in-Assign c =
    let form = form_with c.args.constants c.in-Assign.form in
    let is = subst (λ x. Sums form x c.in_ok-value-in-Assign.value) c.as_slice-in-Assign.ensures c.in_ok-value-in-Assign.ensures in
    rw (c.in-Assign.is, assign_with c.args.constants c.in-Assign.var c.in-Assign.form, c.put.ensures) (
      refl,
      assigned form c.args.state.now c.args.free.now c.in_ok-value-in-Assign.value is.0 is.1 c.in-Assign.var,
    )

pub returns-in-Havoc : goal.returns-in-Havoc
returns-in-Havoc c =
    let one = subst (λ action. free_count (action ∷ []) ≤ length c.args.free.now) c.in-Havoc.is c.requires.free in
    rw (c.in-Havoc.is, havoc_with c.args.constants c.in-Havoc.var, c.put-in-Havoc.ensures) (
      refl,
      freed c.in-Havoc.var c.args.state.now c.args.free.now c.index-free-0.result one c.index-free-0.is,
    )
