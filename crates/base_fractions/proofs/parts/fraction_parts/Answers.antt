use Rattle.std.proofs.Common.{◌≡◌, ◌<◌, T, nat_abs, to_z, of_z, ap, ap₂, ◌∙◌, subst, sym}
use mir.Syntax.{w64, w128}
use Rattle.std.proofs.lemmas.Int.{to_z-of_z}
use Rattle.base_numbers.specs.Rational.{ratio, is_reduced, signed_by}
use Rattle.base_numbers.proofs.rational.Lowest.{fraction_is, fraction_reduced}
use Rattle.base_fractions.proofs.parts.Divided.{gcd_positive, gcd_left, gcd_right, abs_positive}
use Rattle.base_fractions.proofs.parts.fraction_parts.Goals as goal

pub wide_gcd-g-requires : goal.wide_gcd-g-requires
wide_gcd-g-requires c = abs_positive c.args.den c.unsigned_abs-d.result c.requires c.ranges.den c.unsigned_abs-d.ensures.value

pub wide_quotient-requires-clause-positive : goal.wide_quotient-requires-clause-positive
wide_quotient-requires-clause-positive c = gcd_positive _ _ c.wide_gcd-g.ensures
    (abs_positive c.args.den c.unsigned_abs-d.result c.requires c.ranges.den c.unsigned_abs-d.ensures.value)

pub wide_quotient-requires-clause-divides : goal.wide_quotient-requires-clause-divides
wide_quotient-requires-clause-divides c = gcd_left _ _ c.wide_gcd-g.ensures

pub quotient-requires-clause-positive : goal.quotient-requires-clause-positive
quotient-requires-clause-positive c = gcd_positive _ _ c.wide_gcd-g.ensures
    (abs_positive c.args.den c.unsigned_abs-d.result c.requires c.ranges.den c.unsigned_abs-d.ensures.value)

pub quotient-requires-clause-divides : goal.quotient-requires-clause-divides
quotient-requires-clause-divides c = gcd_right _ _ c.wide_gcd-g.ensures

num_read : (c : goal.After-quotient) → to_z w128 (of_z w128 c.wide_quotient.result) ≡ c.wide_quotient.result
num_read c = to_z-of_z w128 c.wide_quotient.result record { sfits = c.wide_quotient.type_inv }

den_positive : (c : goal.After-quotient) → 0 < c.unsigned_abs-d.result
den_positive c = abs_positive c.args.den c.unsigned_abs-d.result c.requires c.ranges.den c.unsigned_abs-d.ensures.value

pub returns-clause-value : goal.returns-clause-value
returns-clause-value c =
    ap (λ z. ratio z c.quotient.result) (num_read c)
    ∙ fraction_is _ c.wide_quotient.result c.unsigned_abs-d.result c.quotient.result c.wide_gcd-g.result (den_positive c)
    c.wide_gcd-g.ensures c.wide_quotient.ensures.value c.quotient.ensures.value
    ∙ ap₂ ratio
    (to_z-of_z w128 c.signed-n.result record { sfits = c.signed-n.type_inv } ∙ c.signed-n.ensures
    ∙ ap₂ signed_by (to_z-of_z w64 c.args.den c.ranges.den) (to_z-of_z w64 c.args.num c.ranges.num))
    (c.unsigned_abs-d.ensures.value ∙ ap nat_abs (to_z-of_z w64 c.args.den c.ranges.den))

pub returns-clause-lowest : goal.returns-clause-lowest
returns-clause-lowest c =
    subst (λ z. T (is_reduced z c.quotient.result)) (sym (num_read c))
    (fraction_reduced _ c.wide_quotient.result c.unsigned_abs-d.result c.quotient.result c.wide_gcd-g.result (den_positive c)
    c.wide_gcd-g.ensures c.wide_quotient.ensures.value c.quotient.ensures.value)
