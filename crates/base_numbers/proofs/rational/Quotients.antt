-- Division.
use Rattle.std.proofs.Common.{◌≡◌, ◌≢◌, ◌↔◌, T, ℕ, zero, suc, ◌+◌, ◌*◌, ◌<◌, ℤ, pos, negsuc, nat_abs, ◌*ℤ◌, [], ◌∷◌, refl, ap, ap₂, sym}
use Rattle.std.proofs.Common.{◌∙◌, subst, subst₂, arith, zero-lt-suc, mul-pos, one-mul}
use Rattle.std.proofs.lemmas.Int.{ints}
use borrow.Author.Differences.{up, down, neg_is, product_is}
use Rattle.base_numbers.specs.Gcd.{gcd}
use Rattle.base_numbers.specs.Rational.{ℚ, ratio, is_reduced, reduced_by, turned, whole, signed_by, zero_ℚ, ◌*ℚ◌, inv_ℚ, ◌/ℚ◌}
use Rattle.base_numbers.proofs.rational.Reps.{IsRep, rep, rep_eq, rep_ratio, rep_mul, den_pos, den_coprime, rep_zero}
use Rattle.base_numbers.proofs.rational.Laws.{*ℚ_invr, div_ℚ_is}
use Rattle.base_numbers.proofs.rational.Parts.{num-zero, num-whole, den-whole, num-ratio_reduced, den-ratio_reduced}
use Rattle.base_numbers.proofs.gcd.Coprimes.{gcd_comm}
use Rattle.base_numbers.proofs.tactics.Ring.{ring, reads}
use Rattle.base_numbers.proofs.tactics.Linear.{linear_eq, gap_zero, times_zero}
use Rattle.base_numbers.proofs.tactics.Linarith.{lin_eq, eq_times, reads_all}

-- x is a / b where x times b is a
pub quotient_is : (x a b : ℚ) → b ≢ zero_ℚ → x *ℚ b ≡ a → x ≡ a /ℚ b
quotient_is x a b n e =
    lin_eq (x ∷ a ∷ b ∷ inv_ℚ b ∷ []) (eq_times (inv_ℚ b) e ∷ eq_times x (*ℚ_invr b n) ∷ []) (search reads_all depth 40) tt
    ∙ sym (div_ℚ_is a b)

-- a quotient times its divisor is the dividend
pub quotient_times : (a b : ℚ) → b ≢ zero_ℚ → (a /ℚ b) *ℚ b ≡ a
quotient_times a b n = ap (λ x. x *ℚ b) (div_ℚ_is a b) ∙ linear_eq (a ∷ b ∷ inv_ℚ b ∷ []) (times_zero a (gap_zero (*ℚ_invr b n)))
    (search reads depth 40) refl

-- the integer -z or z, as s says, by reps: n / d times m / e is a / b
ratio_times : (N : ℤ) (D : ℕ) (a b : ℚ) → 0 < D → (up N * up b.num + down N * down b.num) * a.den + down a.num * (D * b.den)
    ≡ (up N * down b.num + down N * up b.num) * a.den + up a.num * (D * b.den) → ratio N D *ℚ b ≡ a
ratio_times N D a b h e = rep_eq (rep_mul (rep_ratio N D h) (rep b)) (rep a) e

quotient_at : (x : ℤ) (ad bd : ℕ) (y : ℤ) → let N = signed_by y (x *ℤ pos bd) in
    (up N * up y + down N * down y) * ad + down x * (ad * nat_abs y * bd)
    ≡ (up N * down y + down N * up y) * ad + up x * (ad * nat_abs y * bd)
quotient_at x ad bd (pos k) =
    let e = product_is x (pos bd) in
    let goal : ((up x * bd + down x * 0) * k + (up x * 0 + down x * bd) * 0) * ad + down x * (ad * k * bd)
    ≡ ((up x * bd + down x * 0) * 0 + (up x * 0 + down x * bd) * k) * ad + up x * (ad * k * bd) = omega arith in
    subst₂ (λ u v. (u * k + v * 0) * ad + down x * (ad * k * bd) ≡ (u * 0 + v * k) * ad + up x * (ad * k * bd)) (sym e.0) (sym e.1) goal
quotient_at x ad bd (negsuc k) =
    let e = product_is x (pos bd) in
    let n = neg_is (x *ℤ pos bd) in
    let goal : ((up x * 0 + down x * bd) * 0 + (up x * bd + down x * 0) * suc k) * ad + down x * (ad * suc k * bd)
    ≡ ((up x * 0 + down x * bd) * suc k + (up x * bd + down x * 0) * 0) * ad + up x * (ad * suc k * bd) = omega arith in
    subst₂ (λ u v. (u * 0 + v * suc k) * ad + down x * (ad * suc k * bd) ≡ (u * suc k + v * 0) * ad + up x * (ad * suc k * bd))
    (sym (n.0 ∙ e.1)) (sym (n.1 ∙ e.0)) goal

num_ne_zero : (b : ℚ) → b ≢ zero_ℚ → 0 < nat_abs b.num
num_ne_zero b n = by b.num refl
  where
    by : (z : ℤ) → b.num ≡ z → 0 < nat_abs z
    by (pos zero) e = absurd (n (rep_eq (subst (λ z. IsRep b (up z) (down z) b.den) e (rep b)) rep_zero (omega arith)))
    by (pos (suc k)) e = zero-lt-suc k
    by (negsuc k) e = zero-lt-suc k

-- what code computes for a quotient
ratio_is_quotient : (a b : ℚ) → b ≢ zero_ℚ → ratio (signed_by b.num (a.num *ℤ pos b.den)) (a.den * nat_abs b.num) ≡ a /ℚ b
ratio_is_quotient a b n =
    quotient_is (ratio (signed_by b.num (a.num *ℤ pos b.den)) (a.den * nat_abs b.num)) a b n
    (ratio_times (signed_by b.num (a.num *ℤ pos b.den)) (a.den * nat_abs b.num) a b (mul-pos (den_pos a) (num_ne_zero b n))
    (quotient_at a.num a.den b.den b.num))

abs_of_ne_zero : (b : ℚ) → b ≢ zero_ℚ → b.num ≢ pos 0
abs_of_ne_zero b n e = let h = num_ne_zero b n in let f = ap nat_abs e in omega arith

-- a number is 0 exactly where its numerator is 0
pub zero_by_num : (q : ℚ) → (q.num ≡ pos 0) ↔ (q ≡ zero_ℚ)
zero_by_num q = (
  λ e. rep_eq (subst (λ z. IsRep q (up z) (down z) q.den) e (rep q)) rep_zero (omega arith),
  λ e. ap (λ (r : ℚ). r.num) e ∙ num-zero,
)

-- an integer other than 0 is a number other than 0
pub whole_ne_zero : {z : ℤ} → z ≢ pos 0 → whole z ≢ zero_ℚ
whole_ne_zero {z} n e = n (sym (num-whole z) ∙ ap (λ (q : ℚ). q.num) e ∙ num-zero)

-- what code makes of a numerator and a denominator other than 0
pub ratio_is_fraction : (n d : ℤ) → d ≢ pos 0 → ratio (signed_by d n) (nat_abs d) ≡ whole n /ℚ whole d
ratio_is_fraction n d h =
    let by_one : (whole n).num *ℤ pos (whole d).den ≡ n = ap₂ (λ x y. x *ℤ pos y) (num-whole n) (den-whole d) ∙ *ℤ-one n in
    let one_by : nat_abs d ≡ (whole n).den * nat_abs (whole d).num = sym (one-mul (nat_abs d))
    ∙ ap₂ (λ x (y : ℤ). x * nat_abs y) (sym (den-whole n)) (sym (num-whole d)) in
    ap₂ ratio (ap₂ signed_by (sym (num-whole d)) (sym by_one)) one_by ∙ ratio_is_quotient (whole n) (whole d) (whole_ne_zero h)
  where
    *ℤ-one : (z : ℤ) → z *ℤ pos 1 ≡ z
    *ℤ-one z = omega (arith, ints)

-- an integer divided by 1 is the integer
pub whole_over_one : (z : ℤ) → whole z /ℚ whole (pos 1) ≡ whole z
whole_over_one z = sym (quotient_is (whole z) (whole z) (whole (pos 1)) (whole_ne_zero (λ e. one_not_zero e))
    (ring (whole z ∷ []) (search reads depth 40) refl))
  where
    one_not_zero : pos 1 ≡ pos 0 → ⊥
    one_not_zero e = let h = ap nat_abs e in omega (arith, h)

-- a factor other than 0 may be dropped
pub cancel_right : {x y : ℚ} (m : ℚ) → m ≢ zero_ℚ → x *ℚ m ≡ y *ℚ m → x ≡ y
cancel_right {x} {y} m n e =
    lin_eq (x ∷ y ∷ m ∷ inv_ℚ m ∷ []) (eq_times (inv_ℚ m) e ∷ eq_times x (*ℚ_invr m n) ∷ eq_times y (*ℚ_invr m n) ∷ [])
    (search reads_all depth 40) tt

-- the parts of an inverse
inv_parts : (a : ℚ) → a ≢ zero_ℚ → inv_ℚ a ≡ ratio (signed_by a.num (pos a.den)) (nat_abs a.num)
unfolding inv_ℚ
inv_parts a n = by a.num refl
  where
    by : (z : ℤ) → a.num ≡ z → turned z a.den ≡ ratio (signed_by z (pos a.den)) (nat_abs z)
    by (pos zero) e = absurd (abs_of_ne_zero a n e)
    by (pos (suc k)) e = refl
    by (negsuc k) e = refl

inv_reduced : (a : ℚ) → a ≢ zero_ℚ → T (is_reduced (signed_by a.num (pos a.den)) (nat_abs a.num))
inv_reduced a n =
    reduced_by (signed_by a.num (pos a.den)) (nat_abs a.num) (num_ne_zero a n)
    (ap (λ x. gcd x (nat_abs a.num)) (size a.num a.den) ∙ gcd_comm a.den (nat_abs a.num) ∙ den_coprime a)
  where
    size : (z : ℤ) (d : ℕ) → nat_abs (signed_by z (pos d)) ≡ d
    size (pos k) d = refl
    size (negsuc k) zero = refl
    size (negsuc k) (suc d) = refl

-- the numerator of an inverse is the denominator with the numerator's sign
pub num-inv : (a : ℚ) → a ≢ zero_ℚ → (inv_ℚ a).num ≡ signed_by a.num (pos a.den)
num-inv a n = ap (λ (q : ℚ). q.num) (inv_parts a n) ∙ num-ratio_reduced (signed_by a.num (pos a.den)) (nat_abs a.num) (inv_reduced a n)

-- the denominator of an inverse is the numerator without its sign
pub den-inv : (a : ℚ) → a ≢ zero_ℚ → (inv_ℚ a).den ≡ nat_abs a.num
den-inv a n = ap (λ (q : ℚ). q.den) (inv_parts a n) ∙ den-ratio_reduced (signed_by a.num (pos a.den)) (nat_abs a.num) (inv_reduced a n)
