-- How large products are.
use Rattle.std.proofs.Common.{◌≡◌, ◌≤◌, ◌*◌, ◌/◌, ◌^◌, ℕ, zero, suc, ℤ, pos, negsuc, ◌*ℤ◌, neg_ℤ, arith, FitsSigned, w64, refl, sym, subst}
use native.Mathlib.Nat.{div-le_self}
use lib.Signed.{mag_rem}
use mir.Syntax.{w128}
use Rattle.std.specs.Prelude.{◌≤ℤ◌}
use Rattle.std.specs.Int.RustNames.{unsigned_abs, int_div, int_rem}
use Rattle.std.proofs.lemmas.Int.{ints, unsigned_abs-mul, fits_signed_from_abs}
use Rattle.std.proofs.Math.Nat.{mul-le-mul}

-- how large a number is within bounds
pub abs_of : (z : ℤ) (m : ℕ) → neg_ℤ (pos m) ≤ℤ z → z ≤ℤ pos m → unsigned_abs z ≤ m
abs_of (pos n) m l h = omega (arith, ints)
abs_of (negsuc n) m l h = omega (arith, ints)

low_of : (z : ℤ) (m : ℕ) → unsigned_abs z ≤ m → neg_ℤ (pos m) ≤ℤ z
low_of (pos n) m h = omega (arith, ints)
low_of (negsuc n) m h = omega (arith, ints)

high_of : (z : ℤ) (m : ℕ) → unsigned_abs z ≤ m → z ≤ℤ pos m
high_of (pos n) m h = omega (arith, ints)
high_of (negsuc n) m h = omega (arith, ints)

abs_product : (a b : ℤ) (m n k : ℕ) → neg_ℤ (pos m) ≤ℤ a → a ≤ℤ pos m → neg_ℤ (pos n) ≤ℤ b → b ≤ℤ pos n → m * n ≤ k
    → unsigned_abs (a *ℤ b) ≤ k
abs_product a b m n k al ah bl bh h =
    let p = unsigned_abs-mul a b in
    let q : unsigned_abs a * unsigned_abs b ≤ m * n = mul-le-mul (abs_of a m al ah) (abs_of b n bl bh) in omega (arith, p, q, h)

-- a product is no less than the negated product of both bounds
pub product_low : (a b : ℤ) (m n k : ℕ) → neg_ℤ (pos m) ≤ℤ a → a ≤ℤ pos m → neg_ℤ (pos n) ≤ℤ b → b ≤ℤ pos n → m * n ≤ k
    → neg_ℤ (pos k) ≤ℤ (a *ℤ b)
product_low a b m n k al ah bl bh h = low_of (a *ℤ b) k (abs_product a b m n k al ah bl bh h)

-- and no more than that of both
pub product_high : (a b : ℤ) (m n k : ℕ) → neg_ℤ (pos m) ≤ℤ a → a ≤ℤ pos m → neg_ℤ (pos n) ≤ℤ b → b ≤ℤ pos n → m * n ≤ k
    → (a *ℤ b) ≤ℤ pos k
product_high a b m n k al ah bl bh h = high_of (a *ℤ b) k (abs_product a b m n k al ah bl bh h)

abs_neg : (n : ℕ) → unsigned_abs (neg_ℤ (pos n)) ≡ n
abs_neg zero = refl
abs_neg (suc n) = refl

abs_quotient : (a d : ℤ) → unsigned_abs (int_div a d) ≤ unsigned_abs a
abs_quotient (pos a) (pos b) = div-le_self a b
abs_quotient (pos a) (negsuc b) = subst (λ n. n ≤ a) (sym (abs_neg (a / suc b))) (div-le_self a (suc b))
abs_quotient (negsuc a) (pos b) = subst (λ n. n ≤ suc a) (sym (abs_neg (suc a / b))) (div-le_self (suc a) b)
abs_quotient (negsuc a) (negsuc b) = div-le_self (suc a) (suc b)

abs_fits : (a : ℤ) → FitsSigned w64 a → unsigned_abs a ≤ 2 ^ 63
abs_fits (pos n) f = omega (arith, f.sfits)
abs_fits (negsuc n) f = omega (arith, f.sfits)

-- a quotient of a number of 64 bits fits 128
pub quotient_fits : (a d : ℤ) → FitsSigned w64 a → FitsSigned w128 (int_div a d)
quotient_fits a d f = fits_signed_from_abs w128 (int_div a d) (omega (arith, abs_quotient a d, abs_fits a f))

-- so does what it leaves
pub remainder_fits : (a d : ℤ) → FitsSigned w64 a → FitsSigned w128 (int_rem a d)
remainder_fits a d f = record { sfits = omega (arith, mag_rem a d, f.sfits) }
