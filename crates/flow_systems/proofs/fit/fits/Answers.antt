use Rattle.std.proofs.Common.{◌∙◌, ◌+◌, ◌*◌, ◌<◌, length, get_or, ap, sym, subst, true≢false, arith, refl}
use Rattle.std.proofs.lemmas.Result.{err_from_is_err_and}
use Rattle.base_numbers.specs.Extended.{neg_inf, fin, ◌≤ᴱ◌}
use Rattle.base_fractions.specs.Extended.{extended}
use Rattle.base_fractions.specs.Fits.{long_limit}
use Rattle.base_fractions.specs.Operation.{first_wide, operation_of}
use Rattle.flow_systems.specs.States.{dotℚ}
use Rattle.flow_systems.specs.View.{vector_of}
use Rattle.flow_systems.specs.FitTests.{row_test}
use Rattle.flow_systems.proofs.fit_tests.Tested.{tested_more, tested_fails, fails_at, tested_wide, tested_all}
use Rattle.flow_systems.proofs.fit.fits.Goals as goal

pub returns-in_err-is_at_most : goal.returns-in_err-is_at_most
returns-in_err-is_at_most c =
    let p = err_from_is_err_and c.from_residual.result c.from_residual.ensures.1 in
    let t = c.args.system.now.template in
    let i = c.loop-i.i in
    let same = c.as_slice-rows.ensures.rows in
    let row = c.index-rows-i.result in
    let bound = extended c.at-bound.result in
    rw (p.1, p.2)
    (tested_wide t (vector_of (length t) c.args.bounds.now c.args.point) c.args.state.now i c.loop-i.invariant row
    (subst (λ rs. i < length rs) same c.loop-i-test.true)
    (c.index-rows-i.is ∙ ap (λ rs. get_or rs i row) same) bound (c.at-bound.ensures
    ∙ ap (λ rs. get_or c.args.bounds.now (c.args.point * length rs + i) neg_inf) same)
    (operation_of (λ q. q) c.in_err-is_at_most.field-0.0)
    (ap (λ r. first_wide long_limit (row_test r c.args.state.now bound)) (sym c.as_slice.ensures.list) ∙ c.in_err-is_at_most.ensures))

pub returns-then-not-branch : goal.returns-then-not-branch
returns-then-not-branch c =
    let t = c.args.system.now.template in
    let i = c.loop-i.i in
    let same = c.as_slice-rows.ensures.rows in
    let row = c.index-rows-i.result in
    let bound = extended c.at-bound.result in
    let l = subst (λ rs. i < length rs) same c.loop-i-test.true in
    let e = c.index-rows-i.is ∙ ap (λ rs. get_or rs i row) same in
    let k = c.at-bound.ensures ∙ ap (λ rs. get_or c.args.bounds.now (c.args.point * length rs + i) neg_inf) same in
    let n : ¬ (fin (dotℚ row c.args.state.now) ≤ᴱ bound) = λ h. true≢false
    (sym (c.in_ok-is_at_most.ensures.0.1 (subst (λ r. fin (dotℚ r c.args.state.now) ≤ᴱ bound) (sym c.as_slice.ensures.list) h))
    ∙ c.if-not-branch.true) in
    let f = ap (λ r. first_wide long_limit (row_test r c.args.state.now bound)) (sym c.as_slice.ensures.list)
    ∙ c.in_ok-is_at_most.ensures.1 in (
      (
        λ x. absurd (true≢false (sym x)),
        λ h. absurd (fails_at t (vector_of (length t) c.args.bounds.now c.args.point) c.args.state.now i
            c.loop-i.invariant row l e bound k n h),
      ),
      tested_fails t (vector_of (length t) c.args.bounds.now c.args.point) c.args.state.now i c.loop-i.invariant row l e bound k n f,
    )

pub loop-i-preserved : goal.loop-i-preserved
loop-i-preserved c =
    let t = c.args.system.now.template in
    let i = c.loop-i.i in
    let same = c.as_slice-rows.ensures.rows in
    let row = c.index-rows-i.result in
    let bound = extended c.at-bound.result in
    let l = subst (λ rs. i < length rs) same c.loop-i-test.true in
    let e = c.index-rows-i.is ∙ ap (λ rs. get_or rs i row) same in
    let k = c.at-bound.ensures ∙ ap (λ rs. get_or c.args.bounds.now (c.args.point * length rs + i) neg_inf) same in
    let b : fin (dotℚ row c.args.state.now) ≤ᴱ bound = subst (λ r. fin (dotℚ r c.args.state.now) ≤ᴱ bound) c.as_slice.ensures.list
    (c.in_ok-is_at_most.ensures.0.0 c.if-not-branch.false) in
    let f = ap (λ r. first_wide long_limit (row_test r c.args.state.now bound)) (sym c.as_slice.ensures.list)
    ∙ c.in_ok-is_at_most.ensures.1 in
    tested_more t (vector_of (length t) c.args.bounds.now c.args.point) c.args.state.now i c.loop-i.invariant row l e bound k b f

pub returns : goal.returns
returns c =
    let t = c.args.system.now.template in
    let a = tested_all t (vector_of (length t) c.args.bounds.now c.args.point) c.args.state.now c.loop-i.i
    (omega (arith, ap (λ rs. length rs) c.as_slice-rows.ensures.rows)) c.loop-i.invariant in
    ((λ x. a.0, λ h. refl), a.1)
