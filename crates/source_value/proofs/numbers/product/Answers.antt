use Rattle.std.proofs.Common.{rules, arith, FitsSigned, ◌*ℤ◌, ◌^◌, neg_ℤ, pos}
use Rattle.std.specs.Prelude.{◌≤ℤ◌}
use Rattle.std.proofs.lemmas.Int.{ints, to_z-of_z, fits_signed_mul}
use mir.Syntax.{w128}
use Rattle.source_value.proofs.numbers.Bounds.{abs_of, product_low, product_high}
use Rattle.source_value.proofs.numbers.product.Goals as goal

pub returns-clause-low : goal.returns-clause-low
returns-clause-low c =
    let f = c.ranges.factor in
    let n = c.ranges.number in
    let nw : FitsSigned w128 c.args.number = search rules in
    let al : neg_ℤ (pos (2 ^ 63)) ≤ℤ c.args.factor = omega (arith, ints) in
    let ah : c.args.factor ≤ℤ pos (2 ^ 63) = omega (arith, ints) in
    let bl : neg_ℤ (pos (2 ^ 63)) ≤ℤ c.args.number = omega (arith, ints) in
    let bh : c.args.number ≤ℤ pos (2 ^ 63) = omega (arith, ints) in
    let s : FitsSigned w128 (c.args.factor *ℤ c.args.number) =
    fits_signed_mul w128 c.args.factor c.args.number (2 ^ 63) (2 ^ 63) (abs_of c.args.factor (2 ^ 63) al ah)
    (abs_of c.args.number (2 ^ 63) bl bh) (omega arith) in
    simp to_z-of_z (product_low c.args.factor c.args.number (2 ^ 63) (2 ^ 63) (2 ^ 126) al ah bl bh (omega arith))

pub returns-clause-high : goal.returns-clause-high
returns-clause-high c =
    let f = c.ranges.factor in
    let n = c.ranges.number in
    let nw : FitsSigned w128 c.args.number = search rules in
    let al : neg_ℤ (pos (2 ^ 63)) ≤ℤ c.args.factor = omega (arith, ints) in
    let ah : c.args.factor ≤ℤ pos (2 ^ 63) = omega (arith, ints) in
    let bl : neg_ℤ (pos (2 ^ 63)) ≤ℤ c.args.number = omega (arith, ints) in
    let bh : c.args.number ≤ℤ pos (2 ^ 63) = omega (arith, ints) in
    let s : FitsSigned w128 (c.args.factor *ℤ c.args.number) =
    fits_signed_mul w128 c.args.factor c.args.number (2 ^ 63) (2 ^ 63) (abs_of c.args.factor (2 ^ 63) al ah)
    (abs_of c.args.number (2 ^ 63) bl bh) (omega arith) in
    simp to_z-of_z (product_high c.args.factor c.args.number (2 ^ 63) (2 ^ 63) (2 ^ 126) al ah bl bh (omega arith))
