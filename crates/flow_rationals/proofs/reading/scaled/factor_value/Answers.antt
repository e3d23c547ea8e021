use Rattle.std.proofs.Common.{pos, ap, sym, ◌∙◌}
use Rattle.base_numbers.proofs.rational.Quotients.{whole_over_one}
use Rattle.flow_rationals.specs.WrittenSums.{factor_value}
use Rattle.flow_rationals.proofs.reading.scaled.factor_value.Goals as goal

pub returns-in-None : goal.returns-in-None
returns-in-None c = c.quotient.ensures ∙ (whole_over_one (pos 1) ∙ ap factor_value (sym c.in-None.is))
