use Rattle.std.proofs.Common.{◌≡◌, ◌∙◌, ap, subst}
use Rattle.base_numbers.specs.Rational.{whole, ◌+ℚ◌, ◌*ℚ◌}
use Rattle.base_fractions.specs.Operation.{product_sum_operations}
use Rattle.flow_systems.specs.Sums.{SumAnswers}
use Rattle.flow_systems.proofs.states.Summed.{number_same}
use Rattle.flow_systems.proofs.sums.add_product.Goals as goal

pub returns : goal.returns
returns c =
    let same : c.fraction.result ≡ whole c.args.coeff = c.fraction.ensures ∙ ap whole (number_same c.args.coeff c.requires) in
    subst (λ f. SumAnswers (c.args.sum +ℚ f *ℚ c.args.value) (product_sum_operations c.args.sum f c.args.value) c.add_product.result) same
    c.add_product.ensures
