-- The sign of a number by its numerator.
use Rattle.std.proofs.Common.{◌≡◌, ◌<◌, ◌^◌, T, Bool, true, false, ℤ, pos, ◌*ℤ◌, ◌≤ℤ◌, FitsSigned, to_z, of_z, ⊎_elim, refl, sym, ap}
use Rattle.std.proofs.Common.{◌∙◌, subst, subst₂, arith, true≢false}
use mir.Syntax.{w64}
use lib.Signed.{mag, le_z, lt_z, ◌<ℤ◌}
use Rattle.std.proofs.lemmas.Int.{ints, to_z-of_z}
use Rattle.base_numbers.proofs.rational.Laws.{le_or_lt}
use Rattle.base_numbers.specs.Rational.{ℚ, zero_ℚ, le_ℚ, lt_ℚ, ◌≤ℚ◌, ◌<ℚ◌}
use Rattle.base_numbers.proofs.rational.Parts.{num-zero, den-zero}

times_one : (z : ℤ) → z *ℤ pos 1 ≡ z
times_one z = omega (arith, ints)

zero_times : (z : ℤ) → pos 0 *ℤ z ≡ pos 0
zero_times z = omega (arith, ints)

left_is : (q : ℚ) → q.num *ℤ pos zero_ℚ.den ≡ q.num
left_is q = ap (λ d. q.num *ℤ pos d) den-zero ∙ times_one q.num

right_is : (q : ℚ) → zero_ℚ.num *ℤ pos q.den ≡ pos 0
right_is q = ap (λ z. z *ℤ pos q.den) num-zero ∙ zero_times (pos q.den)

num_le : (q : ℚ) → q.num ≤ℤ pos 0 → q ≤ℚ zero_ℚ
unfolding le_ℚ
num_le q h = record { le = subst₂ (λ x y. T (le_z x y)) (sym (left_is q)) (sym (right_is q)) h.le }

num_ge : (q : ℚ) → pos 0 ≤ℤ q.num → zero_ℚ ≤ℚ q
unfolding le_ℚ
num_ge q h = record { le = subst₂ (λ x y. T (le_z x y)) (sym (right_is q)) (sym (left_is q)) h.le }

num_gt : (q : ℚ) → pos 0 <ℤ q.num → zero_ℚ <ℚ q
unfolding lt_ℚ
num_gt q h = record { lt = subst₂ (λ x y. T (lt_z x y)) (sym (right_is q)) (sym (left_is q)) h.lt }

num_lt : (q : ℚ) → q.num <ℤ pos 0 → q <ℚ zero_ℚ
unfolding lt_ℚ
num_lt q h = record { lt = subst₂ (λ x y. T (lt_z x y)) (sym (left_is q)) (sym (right_is q)) h.lt }

-- and back
le_num : (q : ℚ) → q ≤ℚ zero_ℚ → T (le_z q.num (pos 0))
unfolding le_ℚ
le_num q h = subst₂ (λ x y. T (le_z x y)) (left_is q) (right_is q) h.le

ge_num : (q : ℚ) → zero_ℚ ≤ℚ q → T (le_z (pos 0) q.num)
unfolding le_ℚ
ge_num q h = subst₂ (λ x y. T (le_z x y)) (right_is q) (left_is q) h.le

true_of : (b : Bool) → T b → b ≡ true
true_of true t = refl
true_of false t = absurd t

sign_bits : (x : ℤ) → mag x < 2 ^ 63 → to_z w64 (of_z w64 x) ≡ x
sign_bits x h = to_z-of_z w64 x (let f : FitsSigned w64 x = omega (arith, ints, h) in f)

T-of : (b : Bool) → b ≡ true → T b
T-of b e = subst T (sym e) tt

module _ (q : ℚ) (x : ℤ) (h : mag x < 2 ^ 63) (e : x ≡ q.num) where
  read : to_z w64 (of_z w64 x) ≡ q.num
  read = sign_bits x h ∙ e

  -- what the tests of a numerator say of the number
  pub sign_le : le_z (to_z w64 (of_z w64 x)) (pos 0) ≡ true → q ≤ℚ zero_ℚ
  sign_le t = num_le q record { le = T-of (le_z q.num (pos 0)) (sym (ap (λ z. le_z z (pos 0)) read) ∙ t) }

  -- a numerator that isn't at most 0 is that of a number above 0
  pub sign_gt : le_z (to_z w64 (of_z w64 x)) (pos 0) ≡ false → zero_ℚ <ℚ q
  sign_gt t = ⊎_elim (λ l. absurd (true≢false (le_back l ∙ ap (λ z. le_z z (pos 0)) (sym read) ∙ t))) (λ l. l) (le_or_lt q zero_ℚ)
    where
      le_back : q ≤ℚ zero_ℚ → true ≡ le_z q.num (pos 0)
      le_back l = sym (true_of (le_z q.num (pos 0)) (le_num q l))

  -- a numerator of at least 0 is that of a number of at least 0
  pub sign_ge : le_z (pos 0) (to_z w64 (of_z w64 x)) ≡ true → zero_ℚ ≤ℚ q
  sign_ge t = num_ge q record { le = T-of (le_z (pos 0) q.num) (sym (ap (λ z. le_z (pos 0) z) read) ∙ t) }

  -- a numerator below 0 is that of a number below 0
  pub sign_lt : le_z (pos 0) (to_z w64 (of_z w64 x)) ≡ false → q <ℚ zero_ℚ
  sign_lt t = ⊎_elim (λ l. absurd (true≢false (ge_back l ∙ ap (λ z. le_z (pos 0) z) (sym read) ∙ t))) (λ l. l) (le_or_lt zero_ℚ q)
    where
      ge_back : zero_ℚ ≤ℚ q → true ≡ le_z (pos 0) q.num
      ge_back l = sym (true_of (le_z (pos 0) q.num) (ge_num q l))
