use Rattle.std.proofs.Common.{◌≡◌, ◌*◌, pos, ◌+ℤ◌, ◌*ℤ◌, T, to_z, of_z, ap, ◌∙◌, subst, sym}
use native.Mathlib.Nat.{dvd_trans}
use mir.Syntax.{w128}
use Rattle.std.proofs.lemmas.Int.{to_z-of_z}
use Rattle.base_numbers.specs.Rational.{ratio, is_reduced}
use Rattle.base_numbers.proofs.rational.Lowest.{reduced_den, sum_is, sum_reduced}
use Rattle.base_fractions.proofs.parts.Divided.{gcd_positive, gcd_left, gcd_right, sum_read}
use Rattle.base_fractions.proofs.parts.sum_parts.Goals as goal

pub quotient-a_part-requires-clause-positive : goal.quotient-a_part-requires-clause-positive
quotient-a_part-requires-clause-positive c = gcd_positive _ _ c.gcd-g.ensures (reduced_den c.args.bn c.args.bd c.requires.b_lowest)

pub quotient-a_part-requires-clause-divides : goal.quotient-a_part-requires-clause-divides
quotient-a_part-requires-clause-divides c = gcd_left _ _ c.gcd-g.ensures

pub quotient-b_part-requires-clause-positive : goal.quotient-b_part-requires-clause-positive
quotient-b_part-requires-clause-positive c = gcd_positive _ _ c.gcd-g.ensures (reduced_den c.args.bn c.args.bd c.requires.b_lowest)

pub quotient-b_part-requires-clause-divides : goal.quotient-b_part-requires-clause-divides
quotient-b_part-requires-clause-divides c = gcd_right _ _ c.gcd-g.ensures

pub wide_gcd-h-requires : goal.wide_gcd-h-requires
wide_gcd-h-requires c = gcd_positive _ _ c.gcd-g.ensures (reduced_den c.args.bn c.args.bd c.requires.b_lowest)

pub wide_quotient-num-requires-clause-positive : goal.wide_quotient-num-requires-clause-positive
wide_quotient-num-requires-clause-positive c = gcd_positive _ _ c.wide_gcd-h.ensures
    (gcd_positive _ _ c.gcd-g.ensures (reduced_den c.args.bn c.args.bd c.requires.b_lowest))

pub wide_quotient-num-requires-clause-divides : goal.wide_quotient-num-requires-clause-divides
wide_quotient-num-requires-clause-divides c = gcd_left _ _ c.wide_gcd-h.ensures

pub quotient-requires-clause-positive : goal.quotient-requires-clause-positive
quotient-requires-clause-positive c = gcd_positive _ _ c.wide_gcd-h.ensures
    (gcd_positive _ _ c.gcd-g.ensures (reduced_den c.args.bn c.args.bd c.requires.b_lowest))

pub quotient-requires-clause-divides : goal.quotient-requires-clause-divides
quotient-requires-clause-divides c = dvd_trans c.wide_gcd-h.result (gcd_right _ _ c.wide_gcd-h.ensures) (gcd_right _ _ c.gcd-g.ensures)

-- the sum over the common denominator
over_common : (c : goal.After-quotient) → to_z w128 (of_z w128 (to_z w128 (of_z w128 c.wide_product.result)
    +ℤ to_z w128 (of_z w128 c.wide_product-2.result))) ≡ c.args.an *ℤ pos c.quotient-b_part.result +ℤ c.args.bn
    *ℤ pos c.quotient-a_part.result
over_common c =
    sum_read c.wide_product.result c.wide_product-2.result c.args.an c.args.bn c.quotient-b_part.result c.quotient-a_part.result c.ranges.an
    c.ranges.bn c.wide_product.ensures.bound c.wide_product-2.ensures.bound c.wide_product.ensures.value c.wide_product-2.ensures.value

num_read : (c : goal.After-quotient) → to_z w128 (of_z w128 c.wide_quotient-num.result) ≡ c.wide_quotient-num.result
num_read c = to_z-of_z w128 c.wide_quotient-num.result record { sfits = c.wide_quotient-num.type_inv }

pub returns-clause-sum : goal.returns-clause-sum
returns-clause-sum c =
    ap (λ z. ratio z (c.quotient-a_part.result * c.quotient.result)) (num_read c)
    ∙ sum_is c.args.an c.args.bn c.wide_quotient-num.result _ c.args.ad c.args.bd c.quotient-a_part.result c.quotient-b_part.result
    c.quotient.result c.gcd-g.result c.wide_gcd-h.result
    c.requires.a_lowest c.requires.b_lowest c.gcd-g.ensures c.quotient-a_part.ensures.value c.quotient-b_part.ensures.value (over_common c)
    c.wide_gcd-h.ensures c.wide_quotient-num.ensures.value c.quotient.ensures.value

pub returns-clause-lowest : goal.returns-clause-lowest
returns-clause-lowest c =
    subst (λ z. T (is_reduced z (c.quotient-a_part.result * c.quotient.result))) (sym (num_read c))
    (sum_reduced c.args.an c.args.bn c.wide_quotient-num.result _ c.args.ad c.args.bd c.quotient-a_part.result c.quotient-b_part.result
    c.quotient.result c.gcd-g.result c.wide_gcd-h.result
    c.requires.a_lowest c.requires.b_lowest c.gcd-g.ensures c.quotient-a_part.ensures.value c.quotient-b_part.ensures.value (over_common c)
    c.wide_gcd-h.ensures c.wide_quotient-num.ensures.value c.quotient.ensures.value)
