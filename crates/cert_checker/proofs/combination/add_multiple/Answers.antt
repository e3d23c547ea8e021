use Rattle.std.proofs.lemmas.Result.{err_from_is_err_and}
use Rattle.cert_checker.proofs.combination.Multiples.{multiple_refused, multiple_added}
use Rattle.cert_checker.proofs.combination.add_multiple.Goals as goal

pub returns-in_err-product : goal.returns-in_err-product
returns-in_err-product c =
    let p = err_from_is_err_and c.from_residual.result c.from_residual.ensures.1 in
    rw (p.1, p.2) (multiple_refused c.args.sum c.args.multiplier c.args.number c.in_err-product.field-0.0 c.in_err-product.ensures.0
    c.in_err-product.ensures.1)

pub returns : goal.returns
returns c = multiple_added c.args.sum c.args.multiplier c.args.number c.in_ok-product.product c.plus.result c.in_ok-product.ensures.0
    c.in_ok-product.ensures.1 c.plus.ensures
