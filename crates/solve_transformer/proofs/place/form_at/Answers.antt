use Rattle.std.proofs.lemmas.Result.{err_from_is_err_and}
use Rattle.base_fractions.specs.Operation.{operation_of}
use Rattle.solve_transformer.proofs.place.Sums.{form_refused, form_added}
use Rattle.solve_transformer.proofs.place.form_at.Goals as goal

pub returns-in_err-sum : goal.returns-in_err-sum
returns-in_err-sum c =
    let p = err_from_is_err_and c.from_residual.result c.from_residual.ensures.1 in
    rw (p.1, p.2)
    (form_refused c.args.form.now c.args.word.now c.as_slice.result.now (operation_of (λ q. q) c.in_err-sum.field-0.0) c.as_slice.ensures
    c.in_err-sum.ensures)

pub returns : goal.returns
returns c =
    form_added c.args.form.now c.args.word.now c.as_slice.result.now c.in_ok-sum.sum c.plus.result c.as_slice.ensures c.in_ok-sum.ensures.0
    c.in_ok-sum.ensures.1 c.plus.ensures
