-- The steps of Euclid's algorithm, and the parts of a ratio.
use Rattle.std.proofs.Common.{◌≡◌, ℕ, zero, suc, ◌*◌, ◌/◌, ◌%◌, ◌<◌, ◌≤◌, ℤ, pos, negsuc, neg_ℤ, nat_abs, ◌*ℤ◌, refl, ap, sym, ◌∙◌, arith}
use Prim.Native.Nat.{◌∣◌}
use native.Mathlib.Nat.{div-mul_cancel}
use Rattle.std.specs.Int.RustNames.{int_div}
use Rattle.std.proofs.lemmas.Nat.Gcd.{IsGcd-from_mod, IsGcd-from_zero, same_from_IsGcd, le_of_dvd}
use Rattle.base_numbers.specs.Gcd.{gcd, gcd_is}
use Rattle.base_numbers.specs.Rational.{divide}

-- the greatest common divisor of a number and 0 is the number
pub gcd-zero : (a b : ℕ) → b ≡ 0 → gcd a b ≡ a
gcd-zero a b e = same_from_IsGcd a b (gcd a b) a (gcd_is a b) (IsGcd-from_zero a b e)

-- a step of Euclid's algorithm keeps the greatest common divisor
pub gcd-step : (a b : ℕ) → gcd b (a % b) ≡ gcd a b
gcd-step a b = same_from_IsGcd a b (gcd b (a % b)) (gcd a b) (IsGcd-from_mod a b (gcd b (a % b)) (gcd_is b (a % b))) (gcd_is a b)

-- the greatest common divisor is at most the second number, where that is above 0
pub gcd_le : (a b : ℕ) → 0 < b → gcd a b ≤ b
gcd_le a b h = le_of_dvd h (gcd_is a b).1

divide_is : (n : ℤ) (g : ℕ) → divide n g ≡ int_div n (pos g)
divide_is (pos a) g = refl
divide_is (negsuc a) g = refl

-- a division that comes out even
pub exact_quotient : (z : ℤ) (g : ℕ) → g ∣ nat_abs z → int_div z (pos g) *ℤ pos g ≡ z
exact_quotient z g h = ap (λ x. x *ℤ pos g) (sym (divide_is z g)) ∙ by z h
  where
    turned : (q g a : ℕ) → q * g ≡ suc a → neg_ℤ (pos q) *ℤ pos g ≡ negsuc a
    turned zero g a e = absurd (omega (arith, e))
    turned (suc q) g a e = ap (λ (n : ℕ). neg_ℤ (pos n)) e

    by : (z : ℤ) → g ∣ nat_abs z → divide z g *ℤ pos g ≡ z
    by (pos a) h = ap (λ (n : ℕ). pos n) (div-mul_cancel g h)
    by (negsuc a) h = turned (suc a / g) g a (div-mul_cancel g h)
