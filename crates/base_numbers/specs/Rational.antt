-- The rational numbers. Each has one form: a numerator and a denominator above 0 with no common divisor, so `≡` is equality.
--     ratio n d        the number n / d in its reduced form (0 where d is 0)
--     whole z          the integer z
--     ◌+ℚ◌ ◌-ℚ◌ ◌*ℚ◌ ◌/ℚ◌ neg_ℚ inv_ℚ      the operations; the inverse of 0 is 0
--     ◌≤ℚ◌ ◌<ℚ◌        the order, by the tests le_ℚ and lt_ℚ
--     floor            the greatest integer that is not above
-- A proof above works by the laws of `proofs/`, and opens none of these.
use Rattle.std.specs.Prelude.{◌≡◌, ℕ, zero, suc, ◌*◌, ◌/◌, ◌<◌, ◌&&◌, Bool, true, false, T, eqb, ltb, ℤ, pos, negsuc, neg_ℤ, nat_abs, ◌+ℤ◌}
use Rattle.std.specs.Prelude.{◌*ℤ◌}
use Rattle.std.proofs.Common.{refl, ap, sym, ◌∙◌, subst, arith, lt→ltb, zero-lt-suc}
use lib.Dec.{eqb_refl}
use lib.Signed.{le_z, lt_z, shr_z}
use native.Mathlib.Nat.{div-mul_cancel}
use Rattle.base_numbers.specs.Gcd.{gcd, gcd_within, gcd_is, gcd-quotients}

-- whether a numerator and a denominator are in lowest terms, with the denominator above 0
unfoldable pub is_reduced : ℤ → ℕ → Bool
is_reduced n d = ltb 0 d && eqb (gcd (nat_abs n) d) 1

-- a rational number: its numerator and its denominator, in lowest terms
pub record ℚ : Type 0 where
  pub num : ℤ
  pub den : ℕ
  pub reduced : T (is_reduced num den)

-- n / g, where g divides n
abbrev pub divide : ℤ → ℕ → ℤ
divide (pos a) g = pos (a / g)
divide (negsuc a) g = neg_ℤ (pos (suc a / g))

abs-neg : (n : ℕ) → nat_abs (neg_ℤ (pos n)) ≡ n
abs-neg zero = refl
abs-neg (suc n) = refl

-- without its sign, n / g is n without its sign divided by g
pub abs-divide : (n : ℤ) (g : ℕ) → nat_abs (divide n g) ≡ nat_abs n / g
abs-divide (pos a) g = refl
abs-divide (negsuc a) g = abs-neg (suc a / g)

both : (a b : Bool) → T a → T b → T (a && b)
both true true p q = tt
both true false p q = q
both false b p q = p

-- a pair with a denominator above 0 and no common divisor is in lowest terms
pub reduced_by : (n : ℤ) (d : ℕ) → 0 < d → gcd (nat_abs n) d ≡ 1 → T (is_reduced n d)
unfolding is_reduced
reduced_by n d h e = both (ltb 0 d) (eqb (gcd (nat_abs n) d) 1) (lt→ltb 0 d h) (subst (λ x. T (eqb x 1)) (sym e) (eqb_refl 1))

-- a quotient of a number above 0 by one of its divisors
pub quotient_pos : (a g : ℕ) → 0 < a → a / g * g ≡ a → 0 < a / g
quotient_pos a g h e = by (a / g) e
  where
    by : (q : ℕ) → q * g ≡ a → 0 < q
    by zero e = absurd (omega arith)
    by (suc q) e = zero-lt-suc q

-- 0 / 1 is in lowest terms
pub reduced_zero : T (is_reduced (pos 0) 1)
unfolding is_reduced gcd gcd_within
reduced_zero = tt

-- the number n / d in lowest terms, and 0 where d is 0
unfoldable pub ratio : ℤ → ℕ → ℚ
ratio n zero = record { num = pos 0; den = 1; reduced = reduced_zero }
ratio n (suc k) =
    let g = gcd (nat_abs n) (suc k) in
    record {
      num = divide n g;
      den = suc k / g;
      reduced = reduced_by (divide n g) (suc k / g)
          (quotient_pos (suc k) g (zero-lt-suc k) (div-mul_cancel g (gcd_is (nat_abs n) (suc k)).1))
          (ap (λ x. gcd x (suc k / g)) (abs-divide n g) ∙ gcd-quotients (nat_abs n) (suc k) (zero-lt-suc k));
    }

-- an integer as a rational number
unfoldable pub whole : ℤ → ℚ
whole z = ratio z 1

-- the number 0
unfoldable pub zero_ℚ : ℚ
zero_ℚ = whole (pos 0)

-- the number 1
unfoldable pub one_ℚ : ℚ
one_ℚ = whole (pos 1)

infixl 6 ◌+ℚ◌ ◌-ℚ◌
infixl 7 ◌*ℚ◌ ◌/ℚ◌
infix 4 ◌≤ℚ◌ ◌<ℚ◌
-- the sum, over the product of the denominators
unfoldable pub ◌+ℚ◌ : ℚ → ℚ → ℚ
a +ℚ b = ratio (a.num *ℤ pos b.den +ℤ b.num *ℤ pos a.den) (a.den * b.den)

-- the product
unfoldable pub ◌*ℚ◌ : ℚ → ℚ → ℚ
a *ℚ b = ratio (a.num *ℤ b.num) (a.den * b.den)

-- the negation
unfoldable pub neg_ℚ : ℚ → ℚ
neg_ℚ a = ratio (neg_ℤ a.num) a.den

-- the difference: the sum with the negation
unfoldable pub ◌-ℚ◌ : ℚ → ℚ → ℚ
a -ℚ b = a +ℚ neg_ℚ b

-- d / n, with the sign in the numerator, and 0 where n is 0
abbrev pub turned : ℤ → ℕ → ℚ
turned (pos zero) d = zero_ℚ
turned (pos (suc n)) d = ratio (pos d) (suc n)
turned (negsuc n) d = ratio (neg_ℤ (pos d)) (suc n)

-- 1 / a, and 0 where a is 0
unfoldable pub inv_ℚ : ℚ → ℚ
inv_ℚ a = turned a.num a.den

-- z, or -z where s is below 0
abbrev pub signed_by : ℤ → ℤ → ℤ
signed_by (pos k) z = z
signed_by (negsuc k) z = neg_ℤ z

-- the quotient: the product with the inverse
unfoldable pub ◌/ℚ◌ : ℚ → ℚ → ℚ
a /ℚ b = a *ℚ inv_ℚ b

-- whether a number is at most another, by their products across
unfoldable pub le_ℚ : ℚ → ℚ → Bool
le_ℚ a b = le_z (a.num *ℤ pos b.den) (b.num *ℤ pos a.den)

-- whether a number is below another, by their products across
unfoldable pub lt_ℚ : ℚ → ℚ → Bool
lt_ℚ a b = lt_z (a.num *ℤ pos b.den) (b.num *ℤ pos a.den)

-- records, so that antt finds the two numbers from a hypothesis
pub record ◌≤ℚ◌ (a b : ℚ) : Type 0 where
  pub le : T (le_ℚ a b)

-- a number is below another
pub record ◌<ℚ◌ (a b : ℚ) : Type 0 where
  pub lt : T (lt_ℚ a b)

-- the greatest integer that is at most the number
unfoldable pub floor : ℚ → ℤ
floor a = shr_z a.num a.den
