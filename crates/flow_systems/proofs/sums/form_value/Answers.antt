use Rattle.std.proofs.Common.{◌∙◌, sym}
use Rattle.std.proofs.lemmas.Result.{err_from_is_err_and}
use Rattle.flow_systems.specs.Constants.{form_with}
use Rattle.flow_systems.proofs.states.Summed.{form_refused, form_added, numbers_at}
use Rattle.flow_systems.proofs.follow.WithConstants.{coeffs_same}
use Rattle.flow_systems.proofs.sums.form_value.Goals as goal

pub constant-requires : goal.constant-requires
constant-requires c = (numbers_at c.args.form.now c.requires).1

pub returns-in_err-sum : goal.returns-in_err-sum
returns-in_err-sum c =
    let p = err_from_is_err_and c.from_residual.result c.from_residual.ensures.1 in
    let form = form_with c.args.constants c.args.form.now in
    let same = c.as_slice.ensures.list ∙ sym (coeffs_same c.args.constants c.args.form.now) in
    rw (p.1, p.2) (form_refused form c.args.state.now c.as_slice.result.now c.in_err-sum.field-0.0 same c.in_err-sum.ensures)

pub returns : goal.returns
returns c =
    let form = form_with c.args.constants c.args.form.now in
    let same = c.as_slice.ensures.list ∙ sym (coeffs_same c.args.constants c.args.form.now) in
    form_added form c.args.state.now c.as_slice.result.now c.in_ok-sum.sum c.constant.result c.plus.result same c.in_ok-sum.ensures.0
    c.in_ok-sum.ensures.1 c.constant.ensures c.plus.ensures
