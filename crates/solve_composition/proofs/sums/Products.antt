-- Products that are added to a sum that fits.
use Rattle.std.proofs.Common.{◌≡◌, ◌∙◌, ℤ, pos, nat_abs, [], ◌∷◌, Result, Ok, Err, MatchResult, ap, sym, subst, arith}
use Rattle.std.proofs.lemmas.Int.{ints}
use Rattle.base_numbers.specs.Rational.{ℚ, whole, zero_ℚ, ◌+ℚ◌, ◌*ℚ◌}
use Rattle.base_numbers.proofs.rational.Parts.{num-whole, den-whole}
use Rattle.base_numbers.proofs.rational.Laws.{whole-zero, +ℚ_idr}
use Rattle.base_fractions.specs.Fits.{Fits, long_limit}
use Rattle.base_fractions.specs.declared.wide.Op.TheVariants.{Add, Mul}
use Rattle.base_fractions.specs.declared.wide.Wide.{Wide}
use Rattle.flow_systems.specs.Sums.{product_operations}
use Rattle.flow_systems.proofs.Widths.{first_wide_past}
use Rattle.flow_systems.proofs.states.Summed.{product_added}
use Rattle.solve_composition.specs.Sums.{FittingSum}

-- zero fits
pub zero_fits : Fits long_limit zero_ℚ
zero_fits =
    let n = ap nat_abs (num-whole (pos 0)) in
    let d = den-whole (pos 0) in
    subst (Fits long_limit) whole-zero (record { num_fits = omega (arith, ints); den_fits = omega (arith, ints) })

-- a product that is 0 changes nothing
pub product_skipped : (sum x : ℚ) (c : ℤ) → whole c *ℚ x ≡ zero_ℚ → Fits long_limit sum
    → FittingSum (sum +ℚ (whole c *ℚ x)) (product_operations sum c x) (Ok sum)
product_skipped sum x c e h =
    let same : sum +ℚ (whole c *ℚ x) ≡ sum = ap (λ y. sum +ℚ y) e ∙ +ℚ_idr sum in (
      sym same,
      first_wide_past long_limit (record { op = Mul; left = whole c; right = x })
          (record { op = Add; left = sum; right = whole c *ℚ x } ∷ []) (subst (Fits long_limit) (sym e) zero_fits)
          ∙ first_wide_past long_limit (record { op = Add; left = sum; right = whole c *ℚ x }) [] (subst (Fits long_limit) (sym same) h),
      h,
    )

-- a product that fits is added
pub product_joined : (sum f x p : ℚ) (c : ℤ) (res : Result ℚ (Wide ℚ)) → f ≡ whole c → p ≡ f *ℚ x → Fits long_limit p →
    MatchResult res (λ r. (r ≡ sum +ℚ p) × Fits long_limit r) (λ e. (¬ (Fits long_limit (sum +ℚ p)))
    × (e ≡ record { op = Add; left = sum; right = p })) →
    FittingSum (sum +ℚ (whole c *ℚ x)) (product_operations sum c x) res
product_joined sum f x p c (Ok r) e k h m = let a = product_added sum f x p c (Ok r) e k h m in (a.0, a.1, m.1)
product_joined sum f x p c (Err w) e k h m = product_added sum f x p c (Err w) e k h m
