use Rattle.std.proofs.Common.{◌≢◌, true≢false, sym, ◌∙◌}
use Rattle.base_numbers.specs.Rational.{zero_ℚ}
use Rattle.lp_sparse.proofs.merge.SingleEntries.{merged_zero, merged_sum}
use Rattle.lp_sparse.proofs.formulas.Units.{unit_sum}
use Rattle.lp_sparse.proofs.formulas.merged_of.Goals as goal

pub returns-then-is_zero : goal.returns-then-is_zero
returns-then-is_zero g c =
    let m = g.F.OrderedField.meaning in
    merged_zero g.F.OrderedField.LIMIT (m c.args.entry) (m c.args.factor) (m c.args.above) (m c.args.product) c.args.at_pivot
    c.if-at_pivot.false (c.is_zero.ensures.0 c.if-is_zero.true)

pub returns-in-Some : goal.returns-in-Some
returns-in-Some g c =
    let m = g.F.OrderedField.meaning in
    let L = g.F.OrderedField.LIMIT in
    let n : m c.args.above ≢ zero_ℚ = λ z. true≢false (sym (c.is_zero.ensures.1 z) ∙ c.if-is_zero.false) in
    merged_sum L m (m c.args.entry) (m c.args.factor) (m c.args.above) (m c.args.product) c.args.at_pivot c.plus.result c.if-at_pivot.false
    c.requires.factor n
    (unit_sum m L (m c.args.factor) (m c.args.above) c.unit_product.result c.unit_product.ensures.value c.unit_product.ensures.fits
    c.args.entry c.plus.result c.plus.ensures)

pub returns-in-None : goal.returns-in-None
returns-in-None g c =
    let m = g.F.OrderedField.meaning in
    let n : m c.args.above ≢ zero_ℚ = λ z. true≢false (sym (c.is_zero.ensures.1 z) ∙ c.if-is_zero.false) in
    merged_sum g.F.OrderedField.LIMIT m (m c.args.entry) (m c.args.factor) (m c.args.above) (m c.args.product) c.args.at_pivot
    c.add_product.result c.if-at_pivot.false c.requires.factor n c.add_product.ensures
