use Rattle.std.proofs.Common.{◌∙◌, sym, ap, subst, refl}
use Rattle.base_numbers.specs.Rational.{◌*ℚ◌}
use Rattle.base_numbers.proofs.rational.Laws.{div_ℚ_is}
use Rattle.base_fractions.specs.Fits.{Fits}
use Rattle.base_fractions.proofs.exact.Exact.over.Goals as goal

pub returns-in-Ok : goal.returns-in-Ok
returns-in-Ok g c =
    (c.in-Ok.ensures.0 ∙ ap (λ x. c.args.self *ℚ x) c.inverse.ensures ∙ sym (div_ℚ_is c.args.self c.args.right), c.in-Ok.ensures.1)

pub returns-in-Err : goal.returns-in-Err
returns-in-Err g c = (
  λ h. c.in-Err.ensures.0 (subst (λ q. Fits g.L.Limit.LIMIT q) (div_ℚ_is c.args.self c.args.right
      ∙ ap (λ x. c.args.self *ℚ x) (sym c.inverse.ensures)) h),
  refl,
)
