-- A rational number as (p - m) / d, with naturals p, m and d: `IsRep q p m d`. Equations and orders of rational numbers become those of
-- naturals, which `omega` proves.
use Rattle.std.proofs.Common.{◌≡◌, ℕ, zero, suc, ◌+◌, ◌*◌, ◌/◌, ◌<◌, ◌≤◌, T, eqb, ltb, ℤ, pos, negsuc, neg_ℤ, nat_abs, ◌+ℤ◌, ◌*ℤ◌, refl, ap}
use Rattle.std.proofs.Common.{sym, ◌∙◌, subst, subst₂, arith, ltb→lt, eqb→eq, mul-le-mul_right, le_of_mul-le-mul_right, le_antisymm}
use Rattle.std.proofs.Common.{le_of_eq, mul-pos}
use Prim.Native.Nat.{◌∣◌}
use lib.Dec.{T_prop}
use borrow.Author.Differences.{up, down, ints, same_in, le_in, lt_in, le_T, lt_T, product_is, neg_is}
use native.Mathlib.Nat.{dvd_antisymm, dvd-mul_left, div-mul_cancel}
use Rattle.base_numbers.proofs.compare.Tests.{T_and_parts}
use Rattle.base_numbers.specs.Gcd.{gcd, gcd_is, divides_other}
use Rattle.base_numbers.specs.Rational.{ℚ, is_reduced, ratio, divide, whole, zero_ℚ, one_ℚ, ◌+ℚ◌, ◌*ℚ◌, neg_ℚ, le_ℚ, lt_ℚ, ◌≤ℚ◌, ◌<ℚ◌}

-- a pair in lowest terms has a denominator above 0, and its greatest common divisor is 1
pub is_reduced_out : (n : ℤ) (d : ℕ) → T (is_reduced n d) → (0 < d) × (gcd (nat_abs n) d ≡ 1)
unfolding is_reduced
is_reduced_out n d t =
    let h = T_and_parts (ltb 0 d) (eqb (gcd (nat_abs n) d) 1) t in
    (ltb→lt 0 d h.0, eqb→eq (gcd (nat_abs n) d) 1 h.1)

-- the denominator of a number is above 0
pub den_pos : (q : ℚ) → 0 < q.den
den_pos q = (is_reduced_out q.num q.den q.reduced).0

-- the numerator and the denominator of a number have the greatest common divisor 1
pub den_coprime : (q : ℚ) → gcd (nat_abs q.num) q.den ≡ 1
den_coprime q = (is_reduced_out q.num q.den q.reduced).1

-- ---- one form each
same_parts : (q r : ℚ) → q.num ≡ r.num → q.den ≡ r.den → q ≡ r
same_parts q r e f =
    let P : ℤ → ℕ → Type 0 = λ n d. (o : T (is_reduced n d)) → let x : ℚ = record { num = n; den = d; reduced = o } in x ≡ r in
    let h : P r.num r.den = λ o. ap (λ (t : T (is_reduced r.num r.den)). let x : ℚ = record { num = r.num; den = r.den; reduced = t } in x)
    (T_prop (is_reduced r.num r.den) o r.reduced) in
    subst₂ P (sym e) (sym f) h q.reduced

abs-out : (z : ℤ) (k : ℕ) → nat_abs (z *ℤ pos k) ≡ nat_abs z * k
abs-out (pos n) k = refl
abs-out (negsuc n) k = neg-abs (suc n * k)
  where
    neg-abs : (x : ℕ) → nat_abs (neg_ℤ (pos x)) ≡ x
    neg-abs zero = refl
    neg-abs (suc x) = refl

cancel : (x y k : ℕ) → 0 < k → x * k ≡ y * k → x ≡ y
cancel x y k h e = le_antisymm (le_of_mul-le-mul_right (le_of_eq e) h) (le_of_mul-le-mul_right (le_of_eq (sym e)) h)

same_den : (q r : ℚ) → nat_abs q.num * r.den ≡ nat_abs r.num * q.den → q.den ≡ r.den
same_den q r e = dvd_antisymm
    (divides_other (nat_abs q.num) q.den r.den (den_coprime q) (subst (λ x. q.den ∣ x) (sym e) (dvd-mul_left q.den (nat_abs r.num))))
    (divides_other (nat_abs r.num) r.den q.den (den_coprime r) (subst (λ x. r.den ∣ x) e (dvd-mul_left r.den (nat_abs q.num))))

same_from_cross : (q r : ℚ) → q.num *ℤ pos r.den ≡ r.num *ℤ pos q.den → q ≡ r
same_from_cross q r e =
    let f : q.den ≡ r.den = same_den q r (sym (abs-out q.num r.den) ∙ ap nat_abs e ∙ abs-out r.num q.den) in
    let e' : q.num *ℤ pos r.den ≡ r.num *ℤ pos r.den = e ∙ ap (λ (d : ℕ). r.num *ℤ pos d) f in
    same_parts q r (cancel_z q.num r.num r.den (den_pos r) e') f
  where
    cancel_z : (x y : ℤ) (k : ℕ) → 0 < k → x *ℤ pos k ≡ y *ℤ pos k → x ≡ y
    cancel_z x y k h e =
        let f : (up x + down y) * k ≡ (up y + down x) * k = omega (arith, ints) in
        same_in x y (cancel (up x + down y) (up y + down x) k h f)

-- ---- representatives
-- q is (p - m) / d
pub record IsRep (q : ℚ) (p m d : ℕ) : Type 0 where
  -- the denominator d is above 0
  pub pos_den : 0 < d
  -- the number's numerator and denominator are in the proportion of p - m and d
  pub same : up q.num * d + m * q.den ≡ down q.num * d + p * q.den

-- each number is represented by its numerator in two parts, and its denominator
pub rep : (q : ℚ) → IsRep q (up q.num) (down q.num) q.den
rep q = record { pos_den = den_pos q; same = omega arith }

-- ---- what two representatives say of the numbers' forms (A - B) / D and (A' - B') / D'
module _ (A B D p m d A' B' D' p' m' d' : ℕ) (h : A * d + m * D ≡ B * d + p * D) (h' : A' * d' + m' * D' ≡ B' * d' + p' * D') where
  eq_in : 0 < d * d' → p * d' + m' * d ≡ m * d' + p' * d → A * D' + B' * D ≡ B * D' + A' * D
  eq_in k e =
      let h1 = ap (λ x. x * (D' * d')) h in
      let h2 = ap (λ x. x * (D * d)) h' in
      let h3 = ap (λ x. x * (D * D')) e in
      cancel (A * D' + B' * D) (B * D' + A' * D) (d * d') k (omega arith)

  le_in' : 0 < d * d' → p * d' + m' * d ≤ m * d' + p' * d → A * D' + B' * D ≤ B * D' + A' * D
  le_in' k e =
      let h1 = ap (λ x. x * (D' * d')) h in
      let h2 = ap (λ x. x * (D * d)) h' in
      let h3 = mul-le-mul_right (D * D') e in
      let r : (A * D' + B' * D) * (d * d') ≤ (B * D' + A' * D) * (d * d') = omega arith in
      le_of_mul-le-mul_right r k

  le_out' : 0 < D * D' → A * D' + B' * D ≤ B * D' + A' * D → p * d' + m' * d ≤ m * d' + p' * d
  le_out' k e =
      let h1 = ap (λ x. x * (D' * d')) h in
      let h2 = ap (λ x. x * (D * d)) h' in
      let h3 = mul-le-mul_right (d * d') e in
      let r : (p * d' + m' * d) * (D * D') ≤ (m * d' + p' * d) * (D * D') = omega arith in
      le_of_mul-le-mul_right r k

  sum_in : (u v : ℕ) → u + (B * D' + B' * D) ≡ v + (A * D' + A' * D) →
      u * (d * d') + (m * d' + m' * d) * (D * D') ≡ v * (d * d') + (p * d' + p' * d) * (D * D')
  sum_in u v s =
      let h1 = ap (λ x. x * (D' * d')) h in
      let h2 = ap (λ x. x * (D * d)) h' in
      let h3 = ap (λ x. x * (d * d')) s in
      omega arith

  product_in : (u v : ℕ) → u ≡ A * A' + B * B' → v ≡ A * B' + B * A' →
      u * (d * d') + (p * m' + m * p') * (D * D') ≡ v * (d * d') + (p * p' + m * m') * (D * D')
  product_in u v s t =
      let h1 = ap (λ x. x * (A' * d')) h in
      let h2 = ap (λ x. x * (B' * d')) h in
      let h3 = ap (λ x. x * (p * D)) h' in
      let h4 = ap (λ x. x * (m * D)) h' in
      let s1 = ap (λ x. x * (d * d')) s in
      let t1 = ap (λ x. x * (d * d')) t in
      omega arith

change_in : (A B D p m d p' m' d' : ℕ) → 0 < d → A * d + m * D ≡ B * d + p * D → p * d' + m' * d ≡ m * d' + p' * d
    → A * d' + m' * D ≡ B * d' + p' * D
change_in A B D p m d p' m' d' k h e =
    let h1 = ap (λ x. x * d') h in
    let h2 = ap (λ x. x * D) e in
    cancel (A * d' + m' * D) (B * d' + p' * D) d k (omega arith)

-- a representative may be changed for another in the same proportion
pub rep_change : {q : ℚ} {p m d : ℕ} (p' m' d' : ℕ) → IsRep q p m d → 0 < d' → p * d' + m' * d ≡ m * d' + p' * d → IsRep q p' m' d'
rep_change {q} {p} {m} {d} p' m' d' r k e =
    record { pos_den = k; same = change_in (up q.num) (down q.num) q.den p m d p' m' d' r.pos_den r.same e }

module _ {a b : ℚ} {p m d p' m' d' : ℕ} (r : IsRep a p m d) (r' : IsRep b p' m' d') where
  abbrev some_rep : 0 < d * d'
  some_rep = mul-pos r.pos_den r'.pos_den

  abbrev some_den : 0 < a.den * b.den
  some_den = mul-pos (den_pos a) (den_pos b)

  -- numbers whose representatives are in proportion are equal
  pub rep_eq : p * d' + m' * d ≡ m * d' + p' * d → a ≡ b
  rep_eq e =
      let c = eq_in (up a.num) (down a.num) a.den p m d (up b.num) (down b.num) b.den p' m' d' r.same r'.same some_rep e in
      same_from_cross a b (omega (arith, same_in, product_is))

  -- numbers whose representatives are in order across are in order
  pub rep_le : p * d' + m' * d ≤ m * d' + p' * d → a ≤ℚ b
  unfolding le_ℚ
  rep_le e =
      let c = le_in' (up a.num) (down a.num) a.den p m d (up b.num) (down b.num) b.den p' m' d' r.same r'.same some_rep e in
      record { le = le_in (a.num *ℤ pos b.den) (b.num *ℤ pos a.den) (omega (arith, product_is)) }

  -- the representatives of two numbers in order are in order across
  pub le_rep : a ≤ℚ b → p * d' + m' * d ≤ m * d' + p' * d
  unfolding le_ℚ
  le_rep h =
      let c = le_T (a.num *ℤ pos b.den) (b.num *ℤ pos a.den) h.le in
      le_out' (up a.num) (down a.num) a.den p m d (up b.num) (down b.num) b.den p' m' d' r.same r'.same some_den (omega (arith, product_is))

module _ {a b : ℚ} {p m d p' m' d' : ℕ} (r : IsRep a p m d) (r' : IsRep b p' m' d') where
  -- where a representative is below another's across, its number is below the other's
  pub rep_lt : p * d' + m' * d < m * d' + p' * d → a <ℚ b
  unfolding lt_ℚ
  rep_lt e =
      let c : up b.num * a.den + down a.num * b.den ≤ down b.num * a.den + up a.num * b.den → ⊥ =
      λ h. let o = le_out' (up b.num) (down b.num) b.den p' m' d' (up a.num) (down a.num) a.den p m d r'.same r.same
      (mul-pos (den_pos b) (den_pos a)) h in omega arith in
      record { lt = lt_in (a.num *ℤ pos b.den) (b.num *ℤ pos a.den) (omega (arith, product_is)) }

  -- where a number is below another, its representative is below the other's across
  pub lt_rep : a <ℚ b → p * d' + m' * d < m * d' + p' * d
  unfolding lt_ℚ
  lt_rep h =
      let c = lt_T (a.num *ℤ pos b.den) (b.num *ℤ pos a.den) h.lt in
      let n : p' * d + m * d' ≤ m' * d + p * d' → ⊥ = λ i. let o = le_in' (up b.num) (down b.num) b.den p' m' d' (up a.num) (down a.num)
      a.den p m d r'.same r.same (mul-pos r'.pos_den r.pos_den) i in omega (arith, product_is) in
      omega arith

-- ---- the representatives of what the operations give
ratio_in : (n : ℤ) (g d : ℕ) → nat_abs n / g * g ≡ nat_abs n → d / g * g ≡ d
    → up (divide n g) * d + down n * (d / g) ≡ down (divide n g) * d + up n * (d / g)
ratio_in (pos a) g d e f = let e1 = ap (λ x. x * (d / g)) e in let f1 = ap (λ x. (a / g) * x) f in omega arith
ratio_in (negsuc a) g d e f =
    let e0 : suc a / g * g ≡ suc a = e in
    let e1 = ap (λ x. x * (d / g)) e0 in
    let f1 = ap (λ x. (suc a / g) * x) f in
    let n = neg_is (pos (suc a / g)) in
    let goal : 0 * d + suc a * (d / g) ≡ suc a / g * d + 0 * (d / g) = omega arith in
    subst₂ (λ x y. x * d + suc a * (d / g) ≡ y * d + 0 * (d / g)) (sym n.0) (sym n.1) goal

-- a ratio is represented by its numerator in two parts, and its denominator
pub rep_ratio : (n : ℤ) (d : ℕ) → 0 < d → IsRep (ratio n d) (up n) (down n) d
unfolding ratio
rep_ratio n zero h = absurd (omega arith)
rep_ratio n (suc k) h =
    let g = gcd (nat_abs n) (suc k) in
    let is = gcd_is (nat_abs n) (suc k) in
    record { pos_den = h; same = ratio_in n g (suc k) (div-mul_cancel g is.0) (div-mul_cancel g is.1) }

-- an integer is represented by its two parts over 1
pub rep_whole : (z : ℤ) → IsRep (whole z) (up z) (down z) 1
unfolding whole
rep_whole z = rep_ratio z 1 (omega arith)

-- 0 is represented by 0 over 1
pub rep_zero : IsRep zero_ℚ 0 0 1
unfolding zero_ℚ
rep_zero = rep_whole (pos 0)

-- 1 is represented by 1 over 1
pub rep_one : IsRep one_ℚ 1 0 1
unfolding one_ℚ
rep_one = rep_whole (pos 1)

module _ {a b : ℚ} {p m d p' m' d' : ℕ} (r : IsRep a p m d) (r' : IsRep b p' m' d') where
  -- a sum is represented by the sums across over the product of the denominators
  pub rep_add : IsRep (a +ℚ b) (p * d' + p' * d) (m * d' + m' * d) (d * d')
  unfolding ◌+ℚ◌
  rep_add =
      let n = a.num *ℤ pos b.den +ℤ b.num *ℤ pos a.den in
      let s = sum_in (up a.num) (down a.num) a.den p m d (up b.num) (down b.num) b.den p' m' d' r.same r'.same (up n) (down n)
      (omega (arith, ints)) in
      rep_change (p * d' + p' * d) (m * d' + m' * d) (d * d') (rep_ratio n (a.den * b.den) (mul-pos (den_pos a) (den_pos b)))
      (mul-pos r.pos_den r'.pos_den) s

  -- a product is represented by the products of the parts over the product of the denominators
  pub rep_mul : IsRep (a *ℚ b) (p * p' + m * m') (p * m' + m * p') (d * d')
  unfolding ◌*ℚ◌
  rep_mul =
      let n = a.num *ℤ b.num in
      let is = product_is a.num b.num in
      let s = product_in (up a.num) (down a.num) a.den p m d (up b.num) (down b.num) b.den p' m' d' r.same r'.same (up n) (down n) is.0
      is.1 in
      rep_change (p * p' + m * m') (p * m' + m * p') (d * d') (rep_ratio n (a.den * b.den) (mul-pos (den_pos a) (den_pos b)))
      (mul-pos r.pos_den r'.pos_den) s

-- a negation is represented with the two parts of the numerator exchanged
pub rep_neg : {a : ℚ} {p m d : ℕ} → IsRep a p m d → IsRep (neg_ℚ a) m p d
unfolding neg_ℚ
rep_neg {a} {p} {m} {d} r =
    rep_change m p d (rep_ratio (neg_ℤ a.num) a.den (den_pos a)) r.pos_den
    (let e = r.same in
    let goal : down a.num * d + p * a.den ≡ up a.num * d + m * a.den = omega arith in
    subst₂ (λ x y. x * d + p * a.den ≡ y * d + m * a.den) (sym (neg_is a.num).0) (sym (neg_is a.num).1) goal)
