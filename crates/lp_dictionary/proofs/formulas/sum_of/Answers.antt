use Rattle.std.proofs.Common.{◌≢◌, true≢false, sym, ◌∙◌}
use Rattle.std.proofs.lemmas.Result.{err_from_is_err_and}
use Rattle.base_numbers.specs.Rational.{zero_ℚ}
use Rattle.lp_dictionary.proofs.Entries.{added_at, added_zero, added_refused, added_off}
use Rattle.lp_dictionary.proofs.formulas.sum_of.Goals as goal

pub returns-then-at_pivot : goal.returns-then-at_pivot
returns-then-at_pivot g c =
    let m = g.F.OrderedField.meaning in
    added_at g.F.OrderedField.LIMIT (m c.args.entry) (m c.args.factor) (m c.args.above) c.args.at_pivot c.if-at_pivot.true

pub returns-then-is_zero : goal.returns-then-is_zero
returns-then-is_zero g c =
    let m = g.F.OrderedField.meaning in
    added_zero g.F.OrderedField.LIMIT (m c.args.entry) (m c.args.factor) (m c.args.above) c.args.at_pivot c.if-at_pivot.false
    (c.is_zero.ensures.0 c.if-is_zero.true)

pub returns-in_err-product : goal.returns-in_err-product
returns-in_err-product g c =
    let m = g.F.OrderedField.meaning in
    let p = err_from_is_err_and c.from_residual.result c.from_residual.ensures.1 in
    let n : m c.args.above ≢ zero_ℚ = λ z. true≢false (sym (c.is_zero.ensures.1 z) ∙ c.if-is_zero.false) in
    rw (p.1, p.2, c.in_err-product.ensures.1)
    (added_refused g.F.OrderedField.LIMIT (m c.args.entry) (m c.args.factor) (m c.args.above) c.args.at_pivot c.if-at_pivot.false c.requires
    n c.in_err-product.ensures.0)

pub returns : goal.returns
returns g c =
    let m = g.F.OrderedField.meaning in
    let n : m c.args.above ≢ zero_ℚ = λ z. true≢false (sym (c.is_zero.ensures.1 z) ∙ c.if-is_zero.false) in
    added_off g.F.OrderedField.LIMIT m c.args.entry c.in_ok-product.product (m c.args.factor) (m c.args.above) c.args.at_pivot c.plus.result
    c.if-at_pivot.false c.requires n c.in_ok-product.ensures.0 c.in_ok-product.ensures.1 c.plus.ensures
