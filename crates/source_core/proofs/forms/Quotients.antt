-- Quotients and remainders of a machine's integers: all are among them but the quotient of the least one by -1.
use Rattle.std.proofs.Common.{◌≡◌, ◌≢◌, ◌≤◌, ◌/◌, ◌*◌, ◌%◌, ℕ, zero, suc, refl, arith}
use Rattle.std.specs.Prelude.{ℤ, pos, negsuc, ◌≤ℤ◌, neg_ℤ, int_div, int_rem, unsigned_abs}
use Rattle.std.proofs.lemmas.Int.{ints, by_lt_z}
use Rattle.std.proofs.Math.Nat.{div-le_self, div-le_of_le-mul, mod-le, mul-le-mul, le_refl}
use Rattle.base_integers.specs.declared.integers.Width.{Width}
use Rattle.base_integers.specs.declared.integers.Width.TheVariants.{Bits8, Bits16, Bits32}
use Rattle.base_integers.specs.Integers.{greatest}

-- 1 is among the integers of each width
pub wide : (width : Width) → 1 ≤ greatest width
wide Bits8 = omega arith
wide Bits16 = omega arith
wide Bits32 = omega arith

-- the numbers from the opposite of the greatest one less 1 to the greatest one
abbrev pub IsUpTo : ℕ → ℤ → Type 0
IsUpTo g z = (negsuc g ≤ℤ z) × (z ≤ℤ pos g)

up : (g k : ℕ) → k ≤ g → IsUpTo g (pos k)
up g k l = (omega (arith, ints, l), omega (arith, ints, l))

down : (g k : ℕ) → k ≤ suc g → IsUpTo g (neg_ℤ (pos k))
down g zero l = (omega (arith, ints), omega (arith, ints))
down g (suc k) l = (omega (arith, ints, l), omega (arith, ints))

positive_in : (g a : ℕ) → pos a ≤ℤ pos g → a ≤ g
positive_in g a l = omega (arith, ints, l)

negative_in : (g a : ℕ) → negsuc g ≤ℤ negsuc a → suc a ≤ suc g
negative_in g a l = omega (arith, ints, l)

-- half of at most g + 1 is at most g
halved : (g a b : ℕ) → 1 ≤ g → suc a ≤ suc g → suc a / suc (suc b) ≤ g
halved g a b w l =
    let more : 2 ≤ suc (suc b) = omega arith in
    let two : 2 * g ≤ suc (suc b) * g = mul-le-mul more (le_refl g) in
    div-le_of_le-mul (suc (suc b)) (omega (arith, w, l, two))

-- a quotient by another number than 0 and -1
pub quotient_in : (g : ℕ) (u v : ℤ) → 1 ≤ g → IsUpTo g u → v ≢ negsuc 0 → IsUpTo g (int_div u v)
quotient_in g (pos a) (pos b) w h n = let l = positive_in g a h.1 in let d = div-le_self a b in up g (a / b) (omega (arith, l, d))
quotient_in g (pos a) (negsuc b) w h n =
    let l = positive_in g a h.1 in let d = div-le_self a (suc b) in down g (a / suc b) (omega (arith, l, d))
quotient_in g (negsuc a) (pos b) w h n =
    let l = negative_in g a h.0 in let d = div-le_self (suc a) b in down g (suc a / b) (omega (arith, l, d))
quotient_in g (negsuc a) (negsuc zero) w h n = absurd (n refl)
quotient_in g (negsuc a) (negsuc (suc b)) w h n = up g (suc a / suc (suc b)) (halved g a b w (negative_in g a h.0))

-- a remainder
pub remainder_in : (g : ℕ) (u v : ℤ) → IsUpTo g u → IsUpTo g (int_rem u v)
remainder_in g (pos a) v h =
    let l = positive_in g a h.1 in let d = mod-le a (unsigned_abs v) in up g (a % unsigned_abs v) (omega (arith, l, d))
remainder_in g (negsuc a) v h =
    let l = negative_in g a h.0 in let d = mod-le (suc a) (unsigned_abs v) in down g (suc a % unsigned_abs v) (omega (arith, l, d))

-- the opposite of a number is none of them where the number is the least one alone
pub least_alone : (g : ℕ) (u z : ℤ) → IsUpTo g u → z ≡ neg_ℤ u → ¬ (IsUpTo g z) → u ≡ negsuc g
least_alone g (pos a) z h e n = absurd (n (omega (arith, ints, h.1, e), omega (arith, ints, h.1, e)))
least_alone g (negsuc a) z h e n = by_lt_z (negsuc g) (negsuc a)
    (λ l. absurd (n (omega (arith, ints, l, e), omega (arith, ints, l, e)))) (λ k. equal (negsuc a) (negsuc g) k h.0)
  where
    equal : (x y : ℤ) → x ≤ℤ y → y ≤ℤ x → x ≡ y
    equal x y p q = omega (arith, ints, p, q)
