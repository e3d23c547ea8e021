use Rattle.std.proofs.Common.{FitsSigned, w64, rules}
use Rattle.base_fractions.proofs.exact.Kept.{zero_test}
use Rattle.base_fractions.proofs.field.OrderedField.is_zero.Goals as goal

pub returns : goal.returns
returns g c =
    let f : FitsSigned w64 c.num.result = search rules in
    zero_test c.num.ensures.value f
