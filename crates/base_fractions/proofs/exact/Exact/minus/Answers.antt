use Rattle.std.proofs.Common.{◌∙◌, sym, ap, subst, refl}
use Rattle.base_numbers.specs.Rational.{◌+ℚ◌}
use Rattle.base_numbers.proofs.rational.Laws.{sub_ℚ_is}
use Rattle.base_fractions.specs.Fits.{Fits}
use Rattle.base_fractions.proofs.exact.Exact.minus.Goals as goal

pub returns-in-Ok : goal.returns-in-Ok
returns-in-Ok g c =
    (c.in-Ok.ensures.0 ∙ ap (λ x. c.args.self +ℚ x) c.negate.ensures.value ∙ sym (sub_ℚ_is c.args.self c.args.right), c.in-Ok.ensures.1)

pub returns-in-Err : goal.returns-in-Err
returns-in-Err g c = (
  λ h. c.in-Err.ensures.0 (subst (λ q. Fits g.L.Limit.LIMIT q) (sub_ℚ_is c.args.self c.args.right
      ∙ ap (λ x. c.args.self +ℚ x) (sym c.negate.ensures.value)) h),
  refl,
)
