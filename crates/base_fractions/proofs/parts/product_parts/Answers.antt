use Rattle.std.proofs.Common.{◌≡◌, ◌*◌, T, pos, nat_abs, inl, inr, ⊎_elim, ◌*ℤ◌, to_z, of_z, ap, ap₂, ◌∙◌, subst, sym}
use Prim.Native.Nat.{◌∣◌}
use mir.Syntax.{w64, w128}
use Rattle.std.proofs.lemmas.Int.{to_z-of_z}
use Rattle.base_numbers.specs.Gcd.{gcd}
use Rattle.base_numbers.specs.Rational.{ratio, is_reduced, reduced_zero}
use Rattle.base_numbers.proofs.rational.Lowest.{reduced_den, product_is, product_reduced, product_zero}
use Rattle.base_fractions.proofs.parts.Divided.{gcd_positive, gcd_left, gcd_right, gcd_small, zero_bits}
use Rattle.base_fractions.proofs.parts.product_parts.Goals as goal

pub signed_quotient-requires-clause-positive : goal.signed_quotient-requires-clause-positive
signed_quotient-requires-clause-positive c = gcd_positive _ _ c.gcd-g.ensures (reduced_den c.args.bn c.args.bd c.requires.b_lowest)

pub signed_quotient-requires-clause-small : goal.signed_quotient-requires-clause-small
signed_quotient-requires-clause-small c = gcd_small _ _ c.gcd-g.ensures (reduced_den c.args.bn c.args.bd c.requires.b_lowest)
    c.requires.b_den

pub signed_quotient-requires-clause-divides : goal.signed_quotient-requires-clause-divides
signed_quotient-requires-clause-divides c = subst (λ x. c.gcd-g.result ∣ x) c.unsigned_abs.ensures.value (gcd_left _ _ c.gcd-g.ensures)

pub signed_quotient-requires-2-clause-positive : goal.signed_quotient-requires-2-clause-positive
signed_quotient-requires-2-clause-positive c = gcd_positive _ _ c.gcd-h.ensures (reduced_den c.args.an c.args.ad c.requires.a_lowest)

pub signed_quotient-requires-2-clause-small : goal.signed_quotient-requires-2-clause-small
signed_quotient-requires-2-clause-small c = gcd_small _ _ c.gcd-h.ensures (reduced_den c.args.an c.args.ad c.requires.a_lowest)
    c.requires.a_den

pub signed_quotient-requires-2-clause-divides : goal.signed_quotient-requires-2-clause-divides
signed_quotient-requires-2-clause-divides c = subst (λ x. c.gcd-h.result ∣ x) c.unsigned_abs-2.ensures.value (gcd_left _ _ c.gcd-h.ensures)

pub quotient-requires-clause-positive : goal.quotient-requires-clause-positive
quotient-requires-clause-positive c = gcd_positive _ _ c.gcd-h.ensures (reduced_den c.args.an c.args.ad c.requires.a_lowest)

pub quotient-requires-clause-divides : goal.quotient-requires-clause-divides
quotient-requires-clause-divides c = gcd_right _ _ c.gcd-h.ensures

pub quotient-requires-2-clause-positive : goal.quotient-requires-2-clause-positive
quotient-requires-2-clause-positive c = gcd_positive _ _ c.gcd-g.ensures (reduced_den c.args.bn c.args.bd c.requires.b_lowest)

pub quotient-requires-2-clause-divides : goal.quotient-requires-2-clause-divides
quotient-requires-2-clause-divides c = gcd_right _ _ c.gcd-g.ensures

num_read : (c : goal.After-quotient-2) → to_z w128 (of_z w128 c.signed_product-num.result)
    ≡ c.signed_quotient.result *ℤ c.signed_quotient-2.result
num_read c =
    to_z-of_z w128 c.signed_product-num.result record { sfits = c.signed_product-num.type_inv } ∙ c.signed_product-num.ensures
    ∙ ap₂ (λ x y. x *ℤ y) (to_z-of_z w64 c.signed_quotient.result record { sfits = c.signed_quotient.type_inv })
    (to_z-of_z w64 c.signed_quotient-2.result record { sfits = c.signed_quotient-2.type_inv })

left_times : (c : goal.After-quotient-2) → c.signed_quotient.result *ℤ pos c.gcd-g.result ≡ c.args.an
left_times c = c.signed_quotient.ensures.value ∙ to_z-of_z w64 c.args.an c.ranges.an

right_times : (c : goal.After-quotient-2) → c.signed_quotient-2.result *ℤ pos c.gcd-h.result ≡ c.args.bn
right_times c = c.signed_quotient-2.ensures.value ∙ to_z-of_z w64 c.args.bn c.ranges.bn

pub returns-clause-product : goal.returns-clause-product
returns-clause-product c =
    ap (λ z. ratio z (c.quotient.result * c.quotient-2.result)) (num_read c)
    ∙ product_is c.args.an c.args.bn c.signed_quotient.result c.signed_quotient-2.result c.args.ad c.args.bd c.quotient.result
    c.quotient-2.result c.gcd-g.result c.gcd-h.result
    (left_times c) (right_times c) c.quotient.ensures.value c.quotient-2.ensures.value c.requires.a_lowest c.requires.b_lowest

pub returns-clause-lowest : goal.returns-clause-lowest
returns-clause-lowest c =
    let left : c.unsigned_abs.result ≡ nat_abs c.args.an = c.unsigned_abs.ensures.value
    ∙ ap nat_abs (to_z-of_z w64 c.args.an c.ranges.an) in
    let right : c.unsigned_abs-2.result ≡ nat_abs c.args.bn = c.unsigned_abs-2.ensures.value
    ∙ ap nat_abs (to_z-of_z w64 c.args.bn c.ranges.bn) in
    subst (λ z. T (is_reduced z (c.quotient.result * c.quotient-2.result))) (sym (num_read c))
    (product_reduced c.args.an c.args.bn c.signed_quotient.result c.signed_quotient-2.result c.args.ad c.args.bd c.quotient.result
    c.quotient-2.result c.gcd-g.result c.gcd-h.result
    (left_times c) (right_times c) c.quotient.ensures.value c.quotient-2.ensures.value c.requires.a_lowest c.requires.b_lowest
    (c.gcd-g.ensures ∙ ap (λ x. gcd x c.args.bd) left) (c.gcd-h.ensures ∙ ap (λ x. gcd x c.args.ad) right))

pub returns-then-an-eq0-clause-product : goal.returns-then-an-eq0-clause-product
returns-then-an-eq0-clause-product c =
    product_zero c.args.an c.args.bn c.args.ad c.args.bd c.requires.a_lowest c.requires.b_lowest
    (⊎_elim (λ e. inl (zero_bits c.args.an c.ranges.an e)) (λ e. inr (zero_bits c.args.bn c.ranges.bn e.1)) c.then-an-eq0.either)

pub returns-then-an-eq0-clause-lowest : goal.returns-then-an-eq0-clause-lowest
returns-then-an-eq0-clause-lowest c = reduced_zero
