-- A number is the ratio of its parts, and a reduced pair is its ratio's parts.
use Rattle.std.proofs.Common.{◌≡◌, ℕ, zero, suc, ◌&&◌, ltb, eqb, T, ℤ, pos, negsuc, neg_ℤ, nat_abs, refl, ap, sym, ◌∙◌, subst, arith, lit<}
use native.Mathlib.Nat.{eq-one_of_dvd-one}
use Rattle.base_numbers.specs.Gcd.{gcd, gcd_is}
use Rattle.base_numbers.specs.Rational.{ℚ, ratio, is_reduced, reduced_by, reduced_zero, neg_ℚ, zero_ℚ, whole}
use Rattle.base_numbers.proofs.rational.Reps.{rep, rep_eq, rep_ratio, den_pos}

-- a number is the ratio of its numerator and denominator
pub ratio-parts : (q : ℚ) → ratio q.num q.den ≡ q
ratio-parts q = rep_eq (rep_ratio q.num q.den (den_pos q)) (rep q) (omega arith)

-- the number with these parts
made : (n : ℤ) (d : ℕ) → T (is_reduced n d) → ℚ
made n d t = record { num = n; den = d; reduced = t }

-- the numerator of the ratio of a pair in lowest terms is the pair's
pub num-ratio_reduced : (n : ℤ) (d : ℕ) → T (is_reduced n d) → (ratio n d).num ≡ n
num-ratio_reduced n d t = let q : ℚ = record { num = n; den = d; reduced = t } in ap (λ (r : ℚ). r.num) (ratio-parts q)

-- the denominator of the ratio of a pair in lowest terms is the pair's
pub den-ratio_reduced : (n : ℤ) (d : ℕ) → T (is_reduced n d) → (ratio n d).den ≡ d
den-ratio_reduced n d t = let q : ℚ = record { num = n; den = d; reduced = t } in ap (λ (r : ℚ). r.den) (ratio-parts q)

abs-neg : (z : ℤ) → nat_abs (neg_ℤ z) ≡ nat_abs z
abs-neg (pos zero) = refl
abs-neg (pos (suc n)) = refl
abs-neg (negsuc n) = refl

neg_reduced : (z : ℤ) (d : ℕ) → T (is_reduced z d) → T (is_reduced (neg_ℤ z) d)
unfolding is_reduced
neg_reduced z d t = subst (λ x. T (ltb 0 d && eqb (gcd x d) 1)) (sym (abs-neg z)) t

-- the numerator of a negation is the negated numerator
pub num-neg : (q : ℚ) → (neg_ℚ q).num ≡ neg_ℤ q.num
unfolding neg_ℚ
num-neg q = num-ratio_reduced (neg_ℤ q.num) q.den (neg_reduced q.num q.den q.reduced)

-- the denominator of a negation is the number's
pub den-neg : (q : ℚ) → (neg_ℚ q).den ≡ q.den
unfolding neg_ℚ
den-neg q = den-ratio_reduced (neg_ℤ q.num) q.den (neg_reduced q.num q.den q.reduced)

-- the numerator of a negation is as far from 0 as the number's
pub abs-num-neg : (q : ℚ) → nat_abs (neg_ℚ q).num ≡ nat_abs q.num
abs-num-neg q = ap nat_abs (num-neg q) ∙ abs-neg q.num

-- the numerator of 0 is 0
pub num-zero : zero_ℚ.num ≡ pos 0
unfolding zero_ℚ whole
num-zero = num-ratio_reduced (pos 0) 1 reduced_zero

-- the denominator of 0 is 1
pub den-zero : zero_ℚ.den ≡ 1
unfolding zero_ℚ whole
den-zero = den-ratio_reduced (pos 0) 1 reduced_zero

whole_reduced : (z : ℤ) → T (is_reduced z 1)
whole_reduced z = reduced_by z 1 (lit< tt) (eq-one_of_dvd-one (gcd_is (nat_abs z) 1).1)

-- the numerator of an integer is the integer
pub num-whole : (z : ℤ) → (whole z).num ≡ z
unfolding whole
num-whole z = num-ratio_reduced z 1 (whole_reduced z)

-- the denominator of an integer is 1
pub den-whole : (z : ℤ) → (whole z).den ≡ 1
unfolding whole
den-whole z = den-ratio_reduced z 1 (whole_reduced z)
