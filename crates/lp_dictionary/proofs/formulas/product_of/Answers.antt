use Rattle.std.proofs.Common.{◌≢◌, true≢false, sym, ◌∙◌}
use Rattle.base_numbers.specs.Rational.{zero_ℚ}
use Rattle.lp_dictionary.proofs.Entries.{product_zero, product_made}
use Rattle.lp_dictionary.proofs.formulas.product_of.Goals as goal

pub returns-then-is_zero : goal.returns-then-is_zero
returns-then-is_zero g c = product_zero g.F.OrderedField.LIMIT (g.F.OrderedField.meaning c.args.factor)
    (g.F.OrderedField.meaning c.args.above) (c.is_zero.ensures.0 c.if-is_zero.true)

pub returns : goal.returns
returns g c =
    let m = g.F.OrderedField.meaning in
    let n : m c.args.above ≢ zero_ℚ = λ z. true≢false (sym (c.is_zero.ensures.1 z) ∙ c.if-is_zero.false) in
    product_made g.F.OrderedField.LIMIT m c.args.factor c.args.above c.times.result c.requires n c.times.ensures
