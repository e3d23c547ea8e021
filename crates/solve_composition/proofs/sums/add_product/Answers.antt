use Rattle.std.proofs.Common.{◌∙◌, ap, sym, to_z}
use mir.Syntax.{w64}
use Rattle.std.proofs.lemmas.Result.{err_from_is_err_and}
use Rattle.base_numbers.specs.Rational.{whole, ◌*ℚ◌}
use Rattle.base_numbers.proofs.rational.Laws.{whole-zero, zero-*ℚ, *ℚ-zero}
use Rattle.flow_systems.proofs.states.Summed.{number_same, product_refused}
use Rattle.solve_composition.proofs.sums.Products.{product_skipped, product_joined}
use Rattle.solve_composition.proofs.sums.add_product.Goals as goal

pub returns-then-coeff-eq0 : goal.returns-then-coeff-eq0
returns-then-coeff-eq0 c = product_skipped c.args.sum c.args.value c.args.coeff
    (ap (λ z. whole z *ℚ c.args.value) (sym (number_same c.args.coeff c.requires.number) ∙ ap (to_z w64) c.if-coeff-eq0.true)
    ∙ ap (λ q. q *ℚ c.args.value) whole-zero ∙ zero-*ℚ c.args.value) c.requires.fits

pub returns-then-is_zero : goal.returns-then-is_zero
returns-then-is_zero c = product_skipped c.args.sum c.args.value c.args.coeff
    (ap (λ q. whole c.args.coeff *ℚ q) (c.is_zero.ensures.0 c.if-is_zero.true) ∙ *ℚ-zero (whole c.args.coeff)) c.requires.fits

pub returns-in_err-product : goal.returns-in_err-product
returns-in_err-product c =
    let p = err_from_is_err_and c.from_residual.result c.from_residual.ensures.1 in
    rw (p.1, p.2)
    (product_refused c.args.sum c.fraction.result c.args.value c.args.coeff c.in_err-product.field-0.0
    (c.fraction.ensures ∙ ap whole (number_same c.args.coeff c.requires.number)) c.in_err-product.ensures.0 c.in_err-product.ensures.1)

pub returns : goal.returns
returns c =
    product_joined c.args.sum c.fraction.result c.args.value c.in_ok-product.product c.args.coeff c.plus.result
    (c.fraction.ensures ∙ ap whole (number_same c.args.coeff c.requires.number))
    c.in_ok-product.ensures.0 c.in_ok-product.ensures.1 c.plus.ensures
