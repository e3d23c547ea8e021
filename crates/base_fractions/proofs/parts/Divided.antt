-- A division that comes out even, as the code computes it.
use Rattle.std.proofs.Common.{◌≡◌, ◌≢◌, ℕ, ◌<◌, ◌^◌, ℤ, pos, nat_abs, ◌+ℤ◌, ◌*ℤ◌, FitsSigned, to_z, of_z, int_div, sym, ap, ap₂, ◌∙◌, subst}
use Rattle.std.proofs.Common.{arith}
use Prim.Native.Nat.{◌∣◌}
use mir.Syntax.{Width, w64, w128}
use Rattle.std.proofs.lemmas.Int.{ints, quot_is, quot_fits, to_z-of_z}
use Rattle.base_numbers.specs.Gcd.{gcd, gcd_is, gcd_pos}
use Rattle.base_numbers.proofs.gcd.Gcds.{exact_quotient, gcd_le}

-- a division by a divisor, as code computes it, comes out even: the quotient times the divisor is the number
pub divided : (w : Width) (n : ℤ) (g : ℕ) → FitsSigned w n → FitsSigned w (pos g) → to_z w g ≡ pos g → 0 < g → g ∣ nat_abs n
    → to_z w (of_z w (int_div (to_z w (of_z w n)) (to_z w g))) *ℤ pos g ≡ n
divided w n g fn fg eg h d =
    let q = quot_is w n (pos g) fn fg (quot_fits w n (pos g) fn (omega (arith, ints, h))) in
    ap (λ x. to_z w (of_z w (int_div (to_z w (of_z w n)) x)) *ℤ pos g) (eg ∙ sym (to_z-of_z w (pos g) fg)) ∙ ap (λ x. x *ℤ pos g) q
    ∙ exact_quotient n g d

-- the greatest common divisor with a number above 0 is above 0
pub gcd_positive : {g : ℕ} (a b : ℕ) → g ≡ gcd a b → 0 < b → 0 < g
gcd_positive {g} a b e h = subst (λ x. 0 < x) (sym e) (gcd_pos a b h)

-- the greatest common divisor divides the first number
pub gcd_left : {g : ℕ} (a b : ℕ) → g ≡ gcd a b → g ∣ a
gcd_left {g} a b e = subst (λ x. x ∣ a) (sym e) (gcd_is a b).0

-- the greatest common divisor divides the second number
pub gcd_right : {g : ℕ} (a b : ℕ) → g ≡ gcd a b → g ∣ b
gcd_right {g} a b e = subst (λ x. x ∣ b) (sym e) (gcd_is a b).1

-- the greatest common divisor with a number of 63 bits above 0 has 63 bits
pub gcd_small : {g : ℕ} (a b : ℕ) → g ≡ gcd a b → 0 < b → b < 2 ^ 63 → g < 2 ^ 63
gcd_small {g} a b e h l = let k = gcd_le a b h in omega (arith, e, l)

-- the sum of two products that code computes in 128 bits is exact
pub sum_read : (x y a b : ℤ) (f e : ℕ) → FitsSigned w64 a → FitsSigned w64 b → nat_abs x < 2 ^ 126 → nat_abs y < 2 ^ 126
    → x ≡ to_z w64 (of_z w64 a) *ℤ pos f → y ≡ to_z w64 (of_z w64 b) *ℤ pos e →
    to_z w128 (of_z w128 (to_z w128 (of_z w128 x) +ℤ to_z w128 (of_z w128 y))) ≡ a *ℤ pos f +ℤ b *ℤ pos e
sum_read x y a b f e fa fb p q s t =
    let fx : FitsSigned w128 x = omega (arith, ints) in
    let fy : FitsSigned w128 y = omega (arith, ints) in
    let fs : FitsSigned w128 (x +ℤ y) = omega (arith, ints) in
    ap₂ (λ s t. to_z w128 (of_z w128 (s +ℤ t))) (to_z-of_z w128 x fx) (to_z-of_z w128 y fy) ∙ to_z-of_z w128 (x +ℤ y) fs
    ∙ ap₂ (λ s t. s +ℤ t) (s ∙ ap (λ z. z *ℤ pos f) (to_z-of_z w64 a fa)) (t ∙ ap (λ z. z *ℤ pos e) (to_z-of_z w64 b fb))

-- the size of an integer other than 0, as code reads it, is above 0
pub abs_positive : (z : ℤ) (d : ℕ) → z ≢ pos 0 → FitsSigned w64 z → d ≡ nat_abs (to_z w64 (of_z w64 z)) → 0 < d
abs_positive z d n f e = let g = ap nat_abs (to_z-of_z w64 z f) in omega (arith, ints, e, n)

-- an integer of 64 bits whose bits are 0 is 0
pub zero_bits : (z : ℤ) → FitsSigned w64 z → of_z w64 z ≡ 0 → z ≡ pos 0
zero_bits z f e = sym (to_z-of_z w64 z f) ∙ ap (to_z w64) e
