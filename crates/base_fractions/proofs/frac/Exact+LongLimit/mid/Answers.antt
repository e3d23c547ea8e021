use Rattle.std.proofs.Common.{nat_abs, sym, ap, ◌∙◌, arith}
use Rattle.base_numbers.proofs.rational.Quotients.{whole_ne_zero}
use Rattle.base_fractions.proofs.frac.Exact+LongLimit.mid.Goals as goal

pub over-requires : goal.over-requires
over-requires c = λ e. whole_ne_zero (λ f. let h = ap nat_abs f in omega (arith, h)) (sym c.two.ensures ∙ e)
