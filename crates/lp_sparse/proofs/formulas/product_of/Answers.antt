use Rattle.std.proofs.Common.{◌≢◌, [], ◌∷◌, Ok, true≢false, sym, ◌∙◌, subst}
use Rattle.base_numbers.specs.Rational.{zero_ℚ, ◌*ℚ◌}
use Rattle.base_fractions.specs.declared.wide.Op.TheVariants.{Mul}
use Rattle.base_fractions.specs.Operation.{Answers}
use Rattle.lp_dictionary.proofs.Entries.{all_made, product_zero, product_made}
use Rattle.lp_sparse.proofs.formulas.Units.{unit_answer}
use Rattle.lp_sparse.proofs.formulas.product_of.Goals as goal

pub returns-then-is_zero : goal.returns-then-is_zero
returns-then-is_zero g c = product_zero g.F.OrderedField.LIMIT (g.F.OrderedField.meaning c.args.factor)
    (g.F.OrderedField.meaning c.args.above) (c.is_zero.ensures.0 c.if-is_zero.true)

pub returns-in-Some : goal.returns-in-Some
returns-in-Some g c =
    let m = g.F.OrderedField.meaning in
    let L = g.F.OrderedField.LIMIT in
    let f = m c.args.factor in
    let b = m c.args.above in
    let n : m c.args.above ≢ zero_ℚ = λ z. true≢false (sym (c.is_zero.ensures.1 z) ∙ c.if-is_zero.false) in
    subst (λ os. Answers m L (f *ℚ b) os (Ok c.unit_product.result)) (sym
    (all_made L f b (record { op = Mul; left = f; right = b } ∷ []) c.requires.factor n))
    (unit_answer m L f b c.unit_product.result c.unit_product.ensures.value c.unit_product.ensures.fits)

pub returns-in-None : goal.returns-in-None
returns-in-None g c =
    let m = g.F.OrderedField.meaning in
    let n : m c.args.above ≢ zero_ℚ = λ z. true≢false (sym (c.is_zero.ensures.1 z) ∙ c.if-is_zero.false) in
    product_made g.F.OrderedField.LIMIT m c.args.factor c.args.above c.times.result c.requires.factor n c.times.ensures
