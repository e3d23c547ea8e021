use Rattle.std.proofs.lemmas.Result.{err_from_is_err_and}
use Rattle.base_numbers.specs.Rational.{ℚ}
use Rattle.base_fractions.proofs.operation.Widths.{product_refused, product_added}
use Rattle.base_fractions.proofs.exact.Exact.add_product.Goals as goal

pub returns-in_err-product : goal.returns-in_err-product
returns-in_err-product g c =
    let p = err_from_is_err_and c.from_residual.result c.from_residual.ensures.1 in
    rw (p.1, p.2) (product_refused (λ (q : ℚ). q) g.L.Limit.LIMIT c.args.self c.args.factor c.args.other c.in_err-product.field-0.0
    c.in_err-product.ensures.0 c.in_err-product.ensures.1)

pub returns : goal.returns
returns g c =
    product_added (λ (q : ℚ). q) g.L.Limit.LIMIT c.args.self c.args.factor c.args.other c.in_ok-product.product c.plus.result
    c.in_ok-product.ensures.0 c.in_ok-product.ensures.1 c.plus.ensures
