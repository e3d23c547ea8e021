-- The rational numbers are an ordered field. All that proofs above know of them.
use Rattle.std.proofs.Common.{◌≡◌, ◌≢◌, ℕ, zero, suc, ◌+◌, ◌-◌, ◌*◌, ◌<◌, ◌≤◌, ◌⊎◌, inl, inr, ⊎_elim, T, ℤ, pos, negsuc, neg_ℤ, ◌+ℤ◌, ◌*ℤ◌}
use Rattle.std.proofs.Common.{◌≤ℤ◌, ◌<ℤ◌, refl, ap, sym, ◌∙◌, subst, subst₂, arith, zero-lt-suc, mul-le-mul_right, le_of_mul-le-mul_right}
use Rattle.std.proofs.Common.{div-add-mod', mod-lt}
use Rattle.std.specs.Int.{int_div_euclid}
use Rattle.std.proofs.lemmas.Bool.{cases_lt}
use lib.Dec.{T_prop}
use mathlib.Core.HLevel.{Discrete}
use borrow.Author.Differences.{up, down, ints, sum_is_lem, neg_is}
use lib.Signed.{shr_z}
use Rattle.base_numbers.specs.Rational.{ℚ, turned, ratio, whole, zero_ℚ, one_ℚ, ◌+ℚ◌, ◌*ℚ◌, neg_ℚ, ◌-ℚ◌, inv_ℚ, ◌/ℚ◌, lt_ℚ, ◌≤ℚ◌, ◌<ℚ◌}
use Rattle.base_numbers.specs.Rational.{floor}
use Rattle.base_numbers.proofs.rational.Reps.{IsRep, rep, rep_change, rep_eq, rep_le, le_rep, rep_lt, lt_rep, rep_ratio, rep_whole}
use Rattle.base_numbers.proofs.rational.Reps.{rep_zero, rep_one, rep_add, rep_mul, rep_neg, den_pos}

-- ---- a commutative ring
-- addition doesn't depend on the order
pub +ℚ_comm : (a b : ℚ) → a +ℚ b ≡ b +ℚ a
+ℚ_comm a b = rep_eq (rep_add (rep a) (rep b)) (rep_add (rep b) (rep a)) (omega arith)

-- addition is associative
pub +ℚ_assoc : (a b c : ℚ) → (a +ℚ b) +ℚ c ≡ a +ℚ (b +ℚ c)
+ℚ_assoc a b c = rep_eq (rep_add (rep_add (rep a) (rep b)) (rep c)) (rep_add (rep a) (rep_add (rep b) (rep c))) (omega arith)

-- a number plus 0 is the number
pub +ℚ_idr : (a : ℚ) → a +ℚ zero_ℚ ≡ a
+ℚ_idr a = rep_eq (rep_add (rep a) rep_zero) (rep a) (omega arith)

-- a number plus its negation is 0
pub +ℚ_invr : (a : ℚ) → a +ℚ neg_ℚ a ≡ zero_ℚ
+ℚ_invr a = rep_eq (rep_add (rep a) (rep_neg (rep a))) rep_zero (omega arith)

-- multiplication doesn't depend on the order
pub *ℚ_comm : (a b : ℚ) → a *ℚ b ≡ b *ℚ a
*ℚ_comm a b = rep_eq (rep_mul (rep a) (rep b)) (rep_mul (rep b) (rep a)) (omega arith)

-- multiplication is associative
pub *ℚ_assoc : (a b c : ℚ) → (a *ℚ b) *ℚ c ≡ a *ℚ (b *ℚ c)
*ℚ_assoc a b c = rep_eq (rep_mul (rep_mul (rep a) (rep b)) (rep c)) (rep_mul (rep a) (rep_mul (rep b) (rep c))) (omega arith)

-- a number times 1 is the number
pub *ℚ_idr : (a : ℚ) → a *ℚ one_ℚ ≡ a
*ℚ_idr a = rep_eq (rep_mul (rep a) rep_one) (rep a) (omega arith)

-- a product with a sum is the sum of the products
pub *ℚ-+ℚ : (a b c : ℚ) → a *ℚ (b +ℚ c) ≡ a *ℚ b +ℚ a *ℚ c
*ℚ-+ℚ a b c = rep_eq (rep_mul (rep a) (rep_add (rep b) (rep c))) (rep_add (rep_mul (rep a) (rep b)) (rep_mul (rep a) (rep c))) (omega arith)

-- a difference is a sum with the negation
pub sub_ℚ_is : (a b : ℚ) → a -ℚ b ≡ a +ℚ neg_ℚ b
unfolding ◌-ℚ◌
sub_ℚ_is a b = refl

-- a quotient is a product with the inverse
pub div_ℚ_is : (a b : ℚ) → a /ℚ b ≡ a *ℚ inv_ℚ b
unfolding ◌/ℚ◌
div_ℚ_is a b = refl

-- 0 plus a number is the number
pub +ℚ_idl : (a : ℚ) → zero_ℚ +ℚ a ≡ a
+ℚ_idl a = +ℚ_comm zero_ℚ a ∙ +ℚ_idr a

-- 1 times a number is the number
pub *ℚ_idl : (a : ℚ) → one_ℚ *ℚ a ≡ a
*ℚ_idl a = *ℚ_comm one_ℚ a ∙ *ℚ_idr a

-- a number times 0 is 0
pub *ℚ-zero : (a : ℚ) → a *ℚ zero_ℚ ≡ zero_ℚ
*ℚ-zero a = rep_eq (rep_mul (rep a) rep_zero) rep_zero (omega arith)

-- 0 times a number is 0
pub zero-*ℚ : (a : ℚ) → zero_ℚ *ℚ a ≡ zero_ℚ
zero-*ℚ a = *ℚ_comm zero_ℚ a ∙ *ℚ-zero a

-- a sum times a number is the sum of the products
pub +ℚ-*ℚ : (a b c : ℚ) → (a +ℚ b) *ℚ c ≡ a *ℚ c +ℚ b *ℚ c
+ℚ-*ℚ a b c = *ℚ_comm (a +ℚ b) c ∙ *ℚ-+ℚ c a b ∙ ap (λ x. x +ℚ c *ℚ b) (*ℚ_comm c a) ∙ ap (λ x. a *ℚ c +ℚ x) (*ℚ_comm c b)

-- the negation of a negation is the number
pub neg_ℚ-neg_ℚ : (a : ℚ) → neg_ℚ (neg_ℚ a) ≡ a
neg_ℚ-neg_ℚ a = rep_eq (rep_neg (rep_neg (rep a))) (rep a) (omega arith)

*ℚ-neg_ℚ : (a b : ℚ) → a *ℚ neg_ℚ b ≡ neg_ℚ (a *ℚ b)
*ℚ-neg_ℚ a b = rep_eq (rep_mul (rep a) (rep_neg (rep b))) (rep_neg (rep_mul (rep a) (rep b))) (omega arith)

-- a negation times a number is the negation of the product
pub neg_ℚ-*ℚ : (a b : ℚ) → neg_ℚ a *ℚ b ≡ neg_ℚ (a *ℚ b)
neg_ℚ-*ℚ a b = *ℚ_comm (neg_ℚ a) b ∙ *ℚ-neg_ℚ b a ∙ ap neg_ℚ (*ℚ_comm b a)

-- the negation of 0 is 0
pub neg_ℚ-zero : neg_ℚ zero_ℚ ≡ zero_ℚ
neg_ℚ-zero = rep_eq (rep_neg rep_zero) rep_zero (omega arith)

-- ---- the integers
-- the number of a sum of integers is the sum of their numbers
pub whole-add : (x y : ℤ) → whole (x +ℤ y) ≡ whole x +ℚ whole y
whole-add x y = rep_eq (rep_whole (x +ℤ y)) (rep_add (rep_whole x) (rep_whole y)) (omega (arith, ints))

-- the number of a product of integers is the product of their numbers
pub whole-mul : (x y : ℤ) → whole (x *ℤ y) ≡ whole x *ℚ whole y
whole-mul x y = rep_eq (rep_whole (x *ℤ y)) (rep_mul (rep_whole x) (rep_whole y)) (omega (arith, ints))

-- the number of a negated integer is the negation of its number
pub whole-neg : (x : ℤ) → whole (neg_ℤ x) ≡ neg_ℚ (whole x)
whole-neg x = rep_eq (rep_whole (neg_ℤ x)) (rep_neg (rep_whole x)) (omega (arith, ints))

-- the integer 0 as a number is 0
pub whole-zero : whole (pos 0) ≡ zero_ℚ
unfolding zero_ℚ
whole-zero = refl

-- the integer 1 as a number is 1
pub whole-one : whole (pos 1) ≡ one_ℚ
unfolding one_ℚ
whole-one = refl

-- integers in order are numbers in order
pub whole_le : (x y : ℤ) → x ≤ℤ y → whole x ≤ℚ whole y
whole_le x y h = rep_le (rep_whole x) (rep_whole y) (omega (arith, ints))

-- an integer below another is a number below the other's
pub whole_lt : (x y : ℤ) → x <ℤ y → whole x <ℚ whole y
whole_lt x y h = rep_lt (rep_whole x) (rep_whole y) (omega (arith, ints))

whole_lt_out : (x y : ℤ) → whole x <ℚ whole y → x <ℤ y
whole_lt_out x y h = let r = lt_rep (rep_whole x) (rep_whole y) h in omega (arith, ints)

-- ---- the order
-- each number is at most itself
pub ≤ℚ_refl : (a : ℚ) → a ≤ℚ a
≤ℚ_refl a = rep_le (rep a) (rep a) (omega arith)

-- (p - m) / d is at most (p' - m') / d', and that at most (p'' - m'') / d''
le_along : (p m d p' m' d' p'' m'' d'' : ℕ) → 0 < d' → p * d' + m' * d ≤ m * d' + p' * d → p' * d'' + m'' * d' ≤ m' * d'' + p'' * d'
    → p * d'' + m'' * d ≤ m * d'' + p'' * d
le_along p m d p' m' d' p'' m'' d'' k h i =
    let h1 = mul-le-mul_right d'' h in
    let i1 = mul-le-mul_right d i in
    let r : (p * d'' + m'' * d) * d' ≤ (m * d'' + p'' * d) * d' = omega arith in
    le_of_mul-le-mul_right r k

-- the order is transitive
pub ≤ℚ_trans : {a b c : ℚ} → a ≤ℚ b → b ≤ℚ c → a ≤ℚ c
≤ℚ_trans {a} {b} {c} h i =
    rep_le (rep a) (rep c) (le_along (up a.num) (down a.num) a.den (up b.num) (down b.num) b.den (up c.num) (down c.num) c.den (den_pos b)
    (le_rep (rep a) (rep b) h) (le_rep (rep b) (rep c) i))

-- two numbers, each at most the other, are equal
pub ≤ℚ_antisymm : {a b : ℚ} → a ≤ℚ b → b ≤ℚ a → a ≡ b
≤ℚ_antisymm {a} {b} h i =
    let x = le_rep (rep a) (rep b) h in
    let y = le_rep (rep b) (rep a) i in
    rep_eq (rep a) (rep b) (omega arith)

-- of two numbers the first is at most the second, or the second is below the first
pub le_or_lt : (a b : ℚ) → (a ≤ℚ b) ⊎ (b <ℚ a)
le_or_lt a b =
    ⊎_elim (λ l. inr (rep_lt (rep b) (rep a) (omega arith))) (λ g. inl (rep_le (rep a) (rep b) g))
    (cases_lt (down a.num * b.den + up b.num * a.den) (up a.num * b.den + down b.num * a.den))

-- a number below another is at most that one
pub le_of_lt_ℚ : {a b : ℚ} → a <ℚ b → a ≤ℚ b
le_of_lt_ℚ {a} {b} h = let x = lt_rep (rep a) (rep b) h in rep_le (rep a) (rep b) (omega arith)

-- of two numbers one is at most the other
pub ≤ℚ_total : (a b : ℚ) → (a ≤ℚ b) ⊎ (b ≤ℚ a)
≤ℚ_total a b = ⊎_elim (λ h. inl h) (λ h. inr (le_of_lt_ℚ h)) (le_or_lt a b)

-- a number below another isn't at least that one
pub not_le_of_lt : {a b : ℚ} → a <ℚ b → ¬ (b ≤ℚ a)
not_le_of_lt {a} {b} h i =
    let x = lt_rep (rep a) (rep b) h in
    let y = le_rep (rep b) (rep a) i in
    omega arith

-- a number that isn't at least another is below that one
pub lt_of_not_le_ℚ : {a b : ℚ} → ¬ (b ≤ℚ a) → a <ℚ b
lt_of_not_le_ℚ {a} {b} n = ⊎_elim (λ h. absurd (n h)) (λ h. h) (le_or_lt b a)

-- a number that isn't above another is at most that one
pub le_of_not_lt_ℚ : {a b : ℚ} → ¬ (b <ℚ a) → a ≤ℚ b
le_of_not_lt_ℚ {a} {b} n = ⊎_elim (λ h. h) (λ h. absurd (n h)) (le_or_lt a b)

-- no number is below itself
pub <ℚ_irrefl : {a : ℚ} → ¬ (a <ℚ a)
<ℚ_irrefl {a} h = not_le_of_lt h (≤ℚ_refl a)

-- what is at most a number below a third is below the third
pub lt_of_le_of_lt_ℚ : {a b c : ℚ} → a ≤ℚ b → b <ℚ c → a <ℚ c
lt_of_le_of_lt_ℚ h i = lt_of_not_le_ℚ (λ j. not_le_of_lt i (≤ℚ_trans j h))

-- what is below a number that is at most a third is below the third
pub lt_of_lt_of_le_ℚ : {a b c : ℚ} → a <ℚ b → b ≤ℚ c → a <ℚ c
lt_of_lt_of_le_ℚ h i = lt_of_not_le_ℚ (λ j. not_le_of_lt h (≤ℚ_trans i j))

-- the strict order is transitive
pub <ℚ_trans : {a b c : ℚ} → a <ℚ b → b <ℚ c → a <ℚ c
<ℚ_trans h i = lt_of_lt_of_le_ℚ h (le_of_lt_ℚ i)

-- equal numbers are at most each other
pub le_of_eq_ℚ : {a b : ℚ} → a ≡ b → a ≤ℚ b
le_of_eq_ℚ {a} {b} e = subst (λ x. a ≤ℚ x) e (≤ℚ_refl a)

-- a number below another isn't equal to it
pub ne_of_lt_ℚ : {a b : ℚ} → a <ℚ b → a ≢ b
ne_of_lt_ℚ {a} {b} h e = <ℚ_irrefl (subst (λ x. x <ℚ b) e h)

trichotomy_ℚ : (a b : ℚ) → (a ≡ b) ⊎ ((a <ℚ b) ⊎ (b <ℚ a))
trichotomy_ℚ a b =
    ⊎_elim (λ h. ⊎_elim (λ i. inl (≤ℚ_antisymm h i)) (λ i. inr (inl i)) (le_or_lt b a)) (λ h. inr (inr h)) (le_or_lt a b)

-- whether two numbers are equal is decided
pub ℚ_discrete : Discrete ℚ
ℚ_discrete a b = ⊎_elim (λ e. yes e) (λ n. no (⊎_elim (λ l. ne_of_lt_ℚ l) (λ g e. ne_of_lt_ℚ g (sym e)) n)) (trichotomy_ℚ a b)

-- that a number is below another has one proof at most
pub <ℚ_prop : (a b : ℚ) → IsProp (a <ℚ b)
<ℚ_prop a b x y = ap (λ (t : T (lt_ℚ a b)). let r : a <ℚ b = record { lt = t } in r) (T_prop (lt_ℚ a b) x.lt y.lt)

-- ---- the order and the operations
-- adding a number on the right keeps the order
pub +ℚ_le_right : {a b : ℚ} (c : ℚ) → a ≤ℚ b → a +ℚ c ≤ℚ b +ℚ c
+ℚ_le_right {a} {b} c h =
    let x = mul-le-mul_right (c.den * c.den) (le_rep (rep a) (rep b) h) in
    rep_le (rep_add (rep a) (rep c)) (rep_add (rep b) (rep c)) (omega arith)

-- adding a number on the left keeps the order
pub +ℚ_le_left : {a b : ℚ} (c : ℚ) → a ≤ℚ b → c +ℚ a ≤ℚ c +ℚ b
+ℚ_le_left {a} {b} c h = subst₂ (λ x y. x ≤ℚ y) (+ℚ_comm a c) (+ℚ_comm b c) (+ℚ_le_right c h)

-- a sum of greater numbers is at least the sum
pub +ℚ_le : {a b c d : ℚ} → a ≤ℚ b → c ≤ℚ d → a +ℚ c ≤ℚ b +ℚ d
+ℚ_le {b = b} {c = c} h i = ≤ℚ_trans (+ℚ_le_right c h) (+ℚ_le_left b i)

-- a product of two numbers that are at least 0 is at least 0
pub *ℚ_nonneg : {a b : ℚ} → zero_ℚ ≤ℚ a → zero_ℚ ≤ℚ b → zero_ℚ ≤ℚ a *ℚ b
*ℚ_nonneg {a} {b} h i =
    let x = le_rep rep_zero (rep a) h in
    let y = le_rep rep_zero (rep b) i in
    let u : down a.num ≤ up a.num = omega arith in
    let v : down b.num ≤ up b.num = omega arith in
    rep_le rep_zero (rep_mul (rep a) (rep b)) (order (up a.num) (down a.num) (up b.num) (down b.num) (a.den * b.den) u v)
  where
    order : (p m p' m' d : ℕ) → m ≤ p → m' ≤ p' → 0 * d + (p * m' + m * p') * 1 ≤ 0 * d + (p * p' + m * m') * 1
    order p m p' m' d u v =
        let e : m + (p - m) ≡ p = omega arith in
        let f : m' + (p' - m') ≡ p' = omega arith in
        subst₂ (λ x y. 0 * d + (x * m' + m * y) * 1 ≤ 0 * d + (x * y + m * m') * 1) e f (omega arith)

-- a product of two numbers above 0 is above 0
pub *ℚ_pos : {a b : ℚ} → zero_ℚ <ℚ a → zero_ℚ <ℚ b → zero_ℚ <ℚ a *ℚ b
*ℚ_pos {a} {b} h i =
    let x = lt_rep rep_zero (rep a) h in
    let y = lt_rep rep_zero (rep b) i in
    let u : down a.num < up a.num = omega arith in
    let v : down b.num < up b.num = omega arith in
    rep_lt rep_zero (rep_mul (rep a) (rep b)) (order (up a.num) (down a.num) (up b.num) (down b.num) (a.den * b.den) u v)
  where
    order : (p m p' m' d : ℕ) → m < p → m' < p' → 0 * d + (p * m' + m * p') * 1 < 0 * d + (p * p' + m * m') * 1
    order p m p' m' d u v =
        let e : m + suc (p - suc m) ≡ p = omega arith in
        let f : m' + suc (p' - suc m') ≡ p' = omega arith in
        subst₂ (λ x y. 0 * d + (x * m' + m * y) * 1 < 0 * d + (x * y + m * m') * 1) e f (omega arith)

-- 0 is below 1
pub zero_lt_one : zero_ℚ <ℚ one_ℚ
zero_lt_one = rep_lt rep_zero rep_one (omega arith)

-- ---- the inverse
invr_at : (a : ℚ) (n : ℤ) → a.num ≡ n → a ≢ zero_ℚ → a *ℚ turned n a.den ≡ one_ℚ
invr_at a (pos zero) e n =
    let r : IsRep a 0 0 a.den = subst (λ z. IsRep a (up z) (down z) a.den) e (rep a) in
    absurd (n (rep_eq r rep_zero (omega arith)))
invr_at a (pos (suc k)) e n =
    let r : IsRep a (suc k) 0 a.den = subst (λ z. IsRep a (up z) (down z) a.den) e (rep a) in
    rep_eq (rep_mul r (rep_ratio (pos a.den) (suc k) (zero-lt-suc k))) rep_one (omega arith)
invr_at a (negsuc k) e n =
    let r : IsRep a 0 (suc k) a.den = subst (λ z. IsRep a (up z) (down z) a.den) e (rep a) in
    let s : IsRep (ratio (neg_ℤ (pos a.den)) (suc k)) 0 a.den (suc k) =
    rep_change 0 a.den (suc k) (rep_ratio (neg_ℤ (pos a.den)) (suc k) (zero-lt-suc k)) (zero-lt-suc k)
    (let f = neg_is (pos a.den) in let goal : 0 * suc k + a.den * suc k ≡ a.den * suc k + 0 * suc k = omega arith in
    subst₂ (λ x y. x * suc k + a.den * suc k ≡ y * suc k + 0 * suc k) (sym f.0) (sym f.1) goal) in
    rep_eq (rep_mul r s) rep_one (omega arith)

-- a number other than 0 times its inverse is 1
pub *ℚ_invr : (a : ℚ) → a ≢ zero_ℚ → a *ℚ inv_ℚ a ≡ one_ℚ
unfolding inv_ℚ
*ℚ_invr a n = invr_at a a.num refl n

*ℚ_invl : (a : ℚ) → a ≢ zero_ℚ → inv_ℚ a *ℚ a ≡ one_ℚ
*ℚ_invl a n = *ℚ_comm (inv_ℚ a) a ∙ *ℚ_invr a n

-- a product that is 0 has a factor that is 0
pub no_zero_divisors : (a b : ℚ) → a *ℚ b ≡ zero_ℚ → (a ≡ zero_ℚ) ⊎ (b ≡ zero_ℚ)
no_zero_divisors a b e = by (ℚ_discrete a zero_ℚ)
  where
    by : Dec (a ≡ zero_ℚ) → (a ≡ zero_ℚ) ⊎ (b ≡ zero_ℚ)
    by (yes f) = inl f
    by (no n) = inr (sym (*ℚ_idl b) ∙ ap (λ x. x *ℚ b) (sym (*ℚ_invl a n)) ∙ *ℚ_assoc (inv_ℚ a) a b ∙ ap (λ x. inv_ℚ a *ℚ x) e
        ∙ *ℚ-zero (inv_ℚ a))

-- a product of two numbers other than 0 isn't 0
pub mul_ne_zero : (a b : ℚ) → a ≢ zero_ℚ → b ≢ zero_ℚ → a *ℚ b ≢ zero_ℚ
mul_ne_zero a b m n e = ⊎_elim m n (no_zero_divisors a b e)

-- 1 isn't 0
pub one_ne_zero : one_ℚ ≢ zero_ℚ
one_ne_zero e = ne_of_lt_ℚ zero_lt_one (sym e)

-- the inverse of a number above 0 is above 0
pub inv_pos : {a : ℚ} → zero_ℚ <ℚ a → zero_ℚ <ℚ inv_ℚ a
inv_pos {a} h =
    let one = *ℚ_invr a (λ e. ne_of_lt_ℚ h (sym e)) in
    ⊎_elim (λ i. absurd (not_le_of_lt zero_lt_one (subst (λ x. x ≤ℚ zero_ℚ) one (below i)))) (λ i. i) (le_or_lt (inv_ℚ a) zero_ℚ)
  where
    below : inv_ℚ a ≤ℚ zero_ℚ → a *ℚ inv_ℚ a ≤ℚ zero_ℚ
    below i =
        let x = lt_rep rep_zero (rep a) h in
        let y = le_rep (rep (inv_ℚ a)) rep_zero i in
        let u : down a.num ≤ up a.num = omega arith in
        let v : up (inv_ℚ a).num ≤ down (inv_ℚ a).num = omega arith in
        rep_le (rep_mul (rep a) (rep (inv_ℚ a))) rep_zero (order (up a.num) (down a.num) (up (inv_ℚ a).num) (down (inv_ℚ a).num)
        (a.den * (inv_ℚ a).den) u v)
      where
        order : (p m p' m' d : ℕ) → m ≤ p → p' ≤ m' → (p * p' + m * m') * 1 + 0 * d ≤ (p * m' + m * p') * 1 + 0 * d
        order p m p' m' d u v =
            let e : m + (p - m) ≡ p = omega arith in
            let f : p' + (m' - p') ≡ m' = omega arith in
            subst₂ (λ x y. (x * p' + m * y) * 1 + 0 * d ≤ (x * y + m * p') * 1 + 0 * d) e f (omega arith)

-- ---- floor
floor_at : (z : ℤ) (d : ℕ) → 0 < d → (up (shr_z z d) * d + down z * 1 ≤ down (shr_z z d) * d + up z * 1)
    × (up z * 1 + down (shr_z z d) * d < down z * 1 + (up (shr_z z d) + 1) * d)
floor_at (pos n) d h = let e = div-add-mod' n d in let k = mod-lt n h in (omega arith, omega arith)
floor_at (negsuc n) d h = let e = div-add-mod' n d in let k = mod-lt n h in (omega arith, omega arith)

-- the floor of a number is at most the number
pub floor_le : (a : ℚ) → whole (floor a) ≤ℚ a
unfolding floor
floor_le a = let f = floor_at a.num a.den (den_pos a) in rep_le (rep_whole (shr_z a.num a.den)) (rep a) (omega arith)

-- a number is below its floor plus 1
pub lt_floor : (a : ℚ) → a <ℚ whole (floor a +ℤ pos 1)
unfolding floor
lt_floor a =
    let f = floor_at a.num a.den (den_pos a) in
    let r : IsRep (whole (shr_z a.num a.den +ℤ pos 1)) (up (shr_z a.num a.den) + 1) (down (shr_z a.num a.den)) 1 =
    rep_change (up (shr_z a.num a.den) + 1) (down (shr_z a.num a.den)) 1 (rep_whole (shr_z a.num a.den +ℤ pos 1)) (zero-lt-suc 0)
    (omega (arith, sum_is_lem (shr_z a.num a.den) (pos 1))) in
    rep_lt (rep a) r (omega arith)

-- an integer that is at most a number, and above it when 1 is added, is the number's floor
pub floor_is : (a : ℚ) (z : ℤ) → whole z ≤ℚ a → a <ℚ whole (z +ℤ pos 1) → floor a ≡ z
floor_is a z h i =
    let x = whole_lt_out z (floor a +ℤ pos 1) (lt_of_le_of_lt_ℚ h (lt_floor a)) in
    let y = whole_lt_out (floor a) (z +ℤ pos 1) (lt_of_le_of_lt_ℚ (floor_le a) i) in
    omega (arith, ints)

-- the floor of an integer is the integer
pub floor-whole : (z : ℤ) → floor (whole z) ≡ z
floor-whole z = floor_is (whole z) z (≤ℚ_refl (whole z)) (whole_lt z (z +ℤ pos 1) (omega (arith, ints)))

-- the greatest whole number that is not above
pub floor_greatest : (a : ℚ) (z : ℤ) → whole z ≤ℚ a → z ≤ℤ floor a
floor_greatest a z h =
    let l = whole_lt_out z (floor a +ℤ pos 1) (lt_of_le_of_lt_ℚ h (lt_floor a)) in
    omega (arith, ints, l)

-- what code computes for the greatest whole number that is not above
pub floor-euclid : (a : ℚ) → int_div_euclid a.num (pos a.den) ≡ floor a
unfolding floor
floor-euclid a = by a.num a.den
  where
    by : (z : ℤ) (d : ℕ) → int_div_euclid z (pos d) ≡ shr_z z d
    by (pos n) d = refl
    by (negsuc n) d = refl
