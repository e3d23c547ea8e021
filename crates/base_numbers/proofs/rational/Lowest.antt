-- Sums and products of fractions in lowest terms, as code forms them: by greatest common divisors taken before the products.
use Rattle.std.proofs.Common.{◌≡◌, ◌≢◌, ℕ, zero, suc, ◌+◌, ◌*◌, ◌/◌, ◌<◌, ◌⊎◌, inl, inr, ⊎_elim, T, [], ◌∷◌, ℤ, pos, negsuc, nat_abs, ◌+ℤ◌}
use Rattle.std.proofs.Common.{◌*ℤ◌, refl, ap, ap₂, sym, ◌∙◌, subst, arith, mul-pos, mul_comm, zero-lt-suc, lit<}
use Prim.Native.Nat.{◌∣◌}
use native.Mathlib.Nat.{dvd_refl, dvd_trans, dvd-mul_right, dvd-mul_left_of_dvd, dvd-add, dvd-add_iff_left, div-mul_cancel, mul-div_cancel}
use Rattle.std.proofs.lemmas.Bool.{cases_lt}
use Rattle.std.proofs.lemmas.Int.{ints, unsigned_abs-mul}
use Rattle.base_numbers.specs.Gcd.{gcd, gcd_is}
use Rattle.base_numbers.specs.Rational.{ℚ, ratio, whole, is_reduced, reduced_by, zero_ℚ, ◌+ℚ◌, ◌*ℚ◌}
use Rattle.base_numbers.proofs.rational.Reps.{is_reduced_out, rep_eq, rep_mul, rep_ratio, rep_whole}
use Rattle.base_numbers.proofs.rational.Laws.{whole-add, whole-mul, whole-zero, mul_ne_zero, zero-*ℚ, *ℚ-zero}
use Rattle.base_numbers.proofs.rational.Quotients.{whole_ne_zero, cancel_right}
use Rattle.base_numbers.proofs.tactics.Linarith.{lin_eq, eq_times, reads_all}
use Rattle.base_numbers.proofs.gcd.Coprimes.{Coprime, coprime_by, coprime_divisor, coprime_sym, coprime_of_dvd, coprime_divides}
use Rattle.base_numbers.proofs.gcd.Coprimes.{coprime_mul, coprime_mul_right, coprime_quotients}

-- the number n as a rational number
abbrev pub nat : ℕ → ℚ
nat n = whole (pos n)

nat-mul : (m n : ℕ) → nat (m * n) ≡ nat m *ℚ nat n
nat-mul m n = ap whole (pos-mul m n) ∙ whole-mul (pos m) (pos n)
  where
    pos-mul : (m n : ℕ) → pos (m * n) ≡ pos m *ℤ pos n
    pos-mul m n = refl

nat_ne_zero : {n : ℕ} → 0 < n → nat n ≢ zero_ℚ
nat_ne_zero {n} h = whole_ne_zero (λ e. let f = ap nat_abs e in omega (arith, f))

-- a ratio is a quotient
ratio-times : (n : ℤ) (d : ℕ) → 0 < d → ratio n d *ℚ nat d ≡ whole n
ratio-times n d h = rep_eq (rep_mul (rep_ratio n d h) (rep_whole (pos d))) (rep_whole n) (omega arith)

-- n / d is x where x times d is n
ratio_is : (n : ℤ) (d : ℕ) (x : ℚ) → 0 < d → x *ℚ nat d ≡ whole n → ratio n d ≡ x
ratio_is n d x h e = cancel_right (nat d) (nat_ne_zero h) (ratio-times n d h ∙ sym e)

-- a product, with g out of a and d, and h out of c and b
product_value : (a c : ℤ) (b d g h : ℕ) → 0 < b → 0 < d → 0 < g → 0 < h
    → ratio (a *ℤ c) (b * d) ≡ ratio (a *ℤ pos g) (b * h) *ℚ ratio (c *ℤ pos h) (d * g)
product_value a c b d g h hb hd hg hh =
    let x = ratio (a *ℤ c) (b * d) in
    let p = ratio (a *ℤ pos g) (b * h) in
    let q = ratio (c *ℤ pos h) (d * g) in
    let ex : x *ℚ (nat b *ℚ nat d) ≡ whole a *ℚ whole c = ap (λ t. x *ℚ t) (sym (nat-mul b d))
    ∙ ratio-times (a *ℤ c) (b * d) (mul-pos hb hd) ∙ whole-mul a c in
    let ep : p *ℚ (nat b *ℚ nat h) ≡ whole a *ℚ nat g = ap (λ t. p *ℚ t) (sym (nat-mul b h))
    ∙ ratio-times (a *ℤ pos g) (b * h) (mul-pos hb hh) ∙ whole-mul a (pos g) in
    let eq' : q *ℚ (nat d *ℚ nat g) ≡ whole c *ℚ nat h = ap (λ t. q *ℚ t) (sym (nat-mul d g))
    ∙ ratio-times (c *ℤ pos h) (d * g) (mul-pos hd hg) ∙ whole-mul c (pos h) in
    cancel_right (nat b *ℚ nat h *ℚ (nat d *ℚ nat g)) (mul_ne_zero (nat b *ℚ nat h) (nat d *ℚ nat g)
    (mul_ne_zero (nat b) (nat h) (nat_ne_zero hb) (nat_ne_zero hh)) (mul_ne_zero (nat d) (nat g) (nat_ne_zero hd) (nat_ne_zero hg)))
    (lin_eq (x ∷ p ∷ q ∷ whole a ∷ whole c ∷ nat b ∷ nat d ∷ nat g ∷ nat h ∷ [])
    (eq_times (nat g *ℚ nat h) ex ∷ eq_times (q *ℚ nat d *ℚ nat g) ep ∷ eq_times (whole a *ℚ nat g) eq' ∷ [])
    (search reads_all depth 60 fits 9000) tt)

-- the numerator and the denominator of a pair in lowest terms have no common divisor
reduced_coprime : (n : ℤ) (d : ℕ) → T (is_reduced n d) → Coprime (nat_abs n) d
reduced_coprime n d t = record { one = (is_reduced_out n d t).1 }

-- the denominator of a pair in lowest terms is above 0
pub reduced_den : (n : ℤ) (d : ℕ) → T (is_reduced n d) → 0 < d
reduced_den n d t = (is_reduced_out n d t).0

reduced_from : (n : ℤ) (d : ℕ) → 0 < d → Coprime (nat_abs n) d → T (is_reduced n d)
reduced_from n d h c = reduced_by n d h c.one

-- the factors of a number above 0
factor_left : (x y z : ℕ) → 0 < z → x * y ≡ z → 0 < x
factor_left zero y z h e = absurd (omega arith)
factor_left (suc x) y z h e = zero-lt-suc x

factor_right : (x y z : ℕ) → 0 < z → x * y ≡ z → 0 < y
factor_right x y z h e = factor_left y x z h (mul_comm y x ∙ e)

abs_times : (z : ℤ) (g : ℕ) (w : ℤ) → z *ℤ pos g ≡ w → nat_abs z * g ≡ nat_abs w
abs_times z g w e = sym (unsigned_abs-mul z (pos g)) ∙ ap nat_abs e

abs_divides : (z : ℤ) (g : ℕ) (w : ℤ) → z *ℤ pos g ≡ w → nat_abs z ∣ nat_abs w
abs_divides z g w e = subst (λ x. nat_abs z ∣ x) (abs_times z g w e) (dvd-mul_right (nat_abs z) g)

divides_by : (x g w : ℕ) → x * g ≡ w → x ∣ w
divides_by x g w e = subst (λ y. x ∣ y) e (dvd-mul_right x g)

-- the product of A / B and C / D, where g divides A and D, and h divides C and B
module _ (A C a c : ℤ) (B D b d g h : ℕ) (ea : a *ℤ pos g ≡ A) (ec : c *ℤ pos h ≡ C) (eb : b * h ≡ B) (ed : d * g ≡ D)
    (ra : T (is_reduced A B)) (rc : T (is_reduced C D)) where
  product_dens : (0 < b) × (0 < h) × (0 < d) × (0 < g)
  product_dens =
      let hB = reduced_den A B ra in
      let hD = reduced_den C D rc in
      (factor_left b h B hB eb, factor_right b h B hB eb, factor_left d g D hD ed, factor_right d g D hD ed)

  -- a product formed after the divisors g and h are taken out is the product of the two fractions
  pub product_is : ratio (a *ℤ c) (b * d) ≡ ratio A B *ℚ ratio C D
  product_is = let p = product_dens in product_value a c b d g h p.0 p.2 p.3 p.1 ∙ ap₂ (λ x y. x *ℚ y) (ap₂ ratio ea eb) (ap₂ ratio ec ed)

  -- where g and h are the greatest common divisors across, the product is in lowest terms
  pub product_reduced : g ≡ gcd (nat_abs A) D → h ≡ gcd (nat_abs C) B → T (is_reduced (a *ℤ c) (b * d))
  product_reduced eg eh =
      let p = product_dens in
      let hB = reduced_den A B ra in
      let hD = reduced_den C D rc in
      let ad = coprime_quotients (nat_abs A) D (nat_abs a) d g hD eg (abs_times a g A ea) ed in
      let cb = coprime_quotients (nat_abs C) B (nat_abs c) b h hB eh (abs_times c h C ec) eb in
      let ab = coprime_of_dvd (nat_abs a) b (reduced_coprime A B ra) (abs_divides a g A ea) (divides_by b h B eb) in
      let cd = coprime_of_dvd (nat_abs c) d (reduced_coprime C D rc) (abs_divides c h C ec) (divides_by d g D ed) in
      reduced_from (a *ℤ c) (b * d) (mul-pos p.0 p.2) (subst (λ x. Coprime x (b * d)) (sym (unsigned_abs-mul a c))
      (coprime_mul (coprime_mul_right ab ad) (coprime_mul_right cb cd)))

-- how the sizes of two integers and of their sum go together
abs_cases : (x y : ℤ) → (nat_abs (x +ℤ y) ≡ nat_abs x + nat_abs y) ⊎ ((nat_abs x ≡ nat_abs y + nat_abs (x +ℤ y))
    ⊎ (nat_abs y ≡ nat_abs x + nat_abs (x +ℤ y)))
abs_cases (pos m) (pos n) = inl refl
abs_cases (pos m) (negsuc n) = ⊎_elim (λ l. inr (inr (omega (arith, ints, l)))) (λ l. inr (inl (omega (arith, ints, l))))
    (cases_lt m (suc n))
abs_cases (negsuc m) (pos n) = ⊎_elim (λ l. inr (inr (omega (arith, ints, l)))) (λ l. inr (inl (omega (arith, ints, l))))
    (cases_lt (suc m) n)
abs_cases (negsuc m) (negsuc n) = inl (omega (arith, ints))

-- what divides a sum and one part divides the other
divides_part : (p : ℕ) (x y : ℤ) → p ∣ nat_abs (x +ℤ y) → p ∣ nat_abs y → p ∣ nat_abs x
divides_part p x y s t =
    ⊎_elim (λ e. (dvd-add_iff_left p t).1 (subst (λ z. p ∣ z) e s))
    (⊎_elim (λ e. subst (λ z. p ∣ z) (sym e) (dvd-add p t s)) (λ e. (dvd-add_iff_left p s).1 (subst (λ z. p ∣ z) e t)))
    (abs_cases x y)

-- a sum over the common denominator has no common divisor with the part of the first denominator that the second lacks
sum_coprime : (a c : ℤ) (B e f : ℕ) → Coprime (nat_abs a) B → e ∣ B → Coprime e f → Coprime (nat_abs (a *ℤ pos f +ℤ c *ℤ pos e)) e
sum_coprime a c B e f h i k =
    coprime_by (λ p s t.
    let u : p ∣ nat_abs (c *ℤ pos e) = subst (λ z. p ∣ z) (sym (unsigned_abs-mul c (pos e))) (dvd-mul_left_of_dvd p t (nat_abs c)) in
    let v : p ∣ nat_abs a * f = subst (λ z. p ∣ z) (unsigned_abs-mul a (pos f)) (divides_part p (a *ℤ pos f) (c *ℤ pos e) s u) in
    let w : p ∣ f = coprime_divides f (coprime_of_dvd (nat_abs a) p h (dvd_refl (nat_abs a)) (dvd_trans p t i)) v in
    coprime_divisor k p t w)

-- the sum of a / B and c / D, where g is the greatest common divisor of B and D, and h that of the sum over the common denominator and g
module _ (a c n t : ℤ) (B D e f k g h : ℕ) (ra : T (is_reduced a B)) (rc : T (is_reduced c D)) (eg : g ≡ gcd B D) (ee : e * g ≡ B)
    (ef : f * g ≡ D) (et : t ≡ a *ℤ pos f +ℤ c *ℤ pos e) (eh : h ≡ gcd (nat_abs t) g) (en : n *ℤ pos h ≡ t) (ek : k * h ≡ D) where
  sum_dens : (0 < B) × (0 < D) × (0 < e) × (0 < g) × (0 < f) × (0 < k) × (0 < h)
  sum_dens =
      let hB = reduced_den a B ra in
      let hD = reduced_den c D rc in (
        hB,
        hD,
        factor_left e g B hB ee,
        factor_right e g B hB ee,
        factor_left f g D hD ef,
        factor_left k h D hD ek,
        factor_right k h D hD ek,
      )

  -- the numerator n over the denominator e k is the sum of the two fractions
  pub sum_is : ratio n (e * k) ≡ ratio a B +ℚ ratio c D
  sum_is =
      let m = sum_dens in
      let x = ratio n (e * k) in
      let p = ratio a B in
      let q = ratio c D in
      let ex : x *ℚ (nat e *ℚ nat k) ≡ whole n = ap (λ t. x *ℚ t) (sym (nat-mul e k)) ∙ ratio-times n (e * k) (mul-pos m.2 m.5) in
      let ep : p *ℚ nat B ≡ whole a = ratio-times a B m.0 in
      let eq' : q *ℚ nat D ≡ whole c = ratio-times c D m.1 in
      let es : whole n *ℚ nat h ≡ whole a *ℚ nat f +ℚ whole c *ℚ nat e =
      sym (whole-mul n (pos h)) ∙ ap whole (en ∙ et) ∙ whole-add (a *ℤ pos f) (c *ℤ pos e)
      ∙ ap₂ (λ s t. s +ℚ t) (whole-mul a (pos f)) (whole-mul c (pos e)) in
      let eB : nat e *ℚ nat g ≡ nat B = sym (nat-mul e g) ∙ ap nat ee in
      let eD : nat f *ℚ nat g ≡ nat D = sym (nat-mul f g) ∙ ap nat ef in
      let eK : nat k *ℚ nat h ≡ nat D = sym (nat-mul k h) ∙ ap nat ek in
      cancel_right (nat B *ℚ nat D) (mul_ne_zero (nat B) (nat D) (nat_ne_zero m.0) (nat_ne_zero m.1))
      (lin_eq (x ∷ p ∷ q ∷ whole a ∷ whole c ∷ whole n ∷ nat B ∷ nat D ∷ nat e ∷ nat f ∷ nat g ∷ nat h ∷ nat k ∷ [])
      (eq_times (nat g *ℚ nat h) ex ∷ eq_times (nat g) es ∷ eq_times (whole a) eD ∷ eq_times (whole c) eB ∷ eq_times (nat D) ep
      ∷ eq_times (nat B) eq' ∷ eq_times (x *ℚ nat D) eB ∷ eq_times (x *ℚ nat e *ℚ nat g) eK ∷ [])
      (search reads_all depth 60 fits 20000)
      tt)

  -- the numerator n over the denominator e k is in lowest terms
  pub sum_reduced : T (is_reduced n (e * k))
  sum_reduced =
      let m = sum_dens in
      let ca = reduced_coprime a B ra in
      let cc = reduced_coprime c D rc in
      let ef' : Coprime e f = coprime_quotients B D e f g m.1 eg ee ef in
      let te : Coprime (nat_abs t) e = subst (λ z. Coprime (nat_abs z) e) (sym et) (sum_coprime a c B e f ca (divides_by e g B ee) ef') in
      let tf : Coprime (nat_abs t) f = subst (λ z. Coprime (nat_abs z) f) (sym (et ∙ swap (a *ℤ pos f) (c *ℤ pos e)))
      (sum_coprime c a D f e cc (divides_by f g D ef) (coprime_sym ef')) in
      let j = g / h in
      let ej : j * h ≡ g = div-mul_cancel h (subst (λ z. z ∣ g) (sym eh) (gcd_is (nat_abs t) g).1) in
      let nt = abs_divides n h t en in
      let ne = coprime_of_dvd (nat_abs n) e te nt (dvd_refl e) in
      let nf = coprime_of_dvd (nat_abs n) f tf nt (dvd_refl f) in
      let nj = coprime_quotients (nat_abs t) g (nat_abs n) j h m.3 eh (abs_times n h t en) ej in
      let kj : k ≡ f * j = cancel k (f * j) h m.6 (ek ∙ sym ef ∙ ap (λ z. f * z) (sym ej) ∙ omega arith) in
      reduced_from n (e * k) (mul-pos m.2 m.5) (coprime_mul_right ne (subst (λ z. Coprime (nat_abs n) z) (sym kj)
      (coprime_mul_right nf nj)))
    where
      swap : (x y : ℤ) → x +ℤ y ≡ y +ℤ x
      swap x y = omega (arith, ints)

      cancel : (x y m : ℕ) → 0 < m → x * m ≡ y * m → x ≡ y
      cancel x y m h e = sym (mul-div_cancel x h) ∙ ap (λ z. z / m) e ∙ mul-div_cancel y h

-- n / d, where g is the greatest common divisor of n and d
module _ (n m : ℤ) (d e g : ℕ) (hd : 0 < d) (eg : g ≡ gcd (nat_abs n) d) (em : m *ℤ pos g ≡ n) (ee : e * g ≡ d) where
  -- the quotients of n and d by g are the numerator and the denominator of n / d
  pub fraction_is : ratio m e ≡ ratio n d
  fraction_is =
      let he = factor_left e g d hd ee in
      let x = ratio m e in
      let ex : x *ℚ nat e ≡ whole m = ratio-times m e he in
      sym (ratio_is n d (ratio m e) hd
      (ap (λ k. ratio m e *ℚ nat k) (sym ee) ∙ ap (λ t. ratio m e *ℚ t) (nat-mul e g)
      ∙ lin_eq (x ∷ nat e ∷ nat g ∷ whole m ∷ []) (eq_times (nat g) ex ∷ []) (search reads_all depth 40) tt
      ∙ sym (whole-mul m (pos g)) ∙ ap whole em))

  -- the quotients of n and d by g are in lowest terms
  pub fraction_reduced : T (is_reduced m e)
  fraction_reduced = reduced_from m e (factor_left e g d hd ee) (coprime_quotients (nat_abs n) d (nat_abs m) e g hd eg (abs_times m g n em)
      ee)

ratio-zero : (d : ℕ) → 0 < d → ratio (pos 0) d ≡ zero_ℚ
ratio-zero d h = ratio_is (pos 0) d zero_ℚ h (zero-*ℚ (nat d) ∙ sym whole-zero)

-- a product of two fractions one of which has the numerator 0 is 0 / 1
pub product_zero : (a c : ℤ) (B D : ℕ) → T (is_reduced a B) → T (is_reduced c D) → (a ≡ pos 0) ⊎ (c ≡ pos 0)
    → ratio (pos 0) 1 ≡ ratio a B *ℚ ratio c D
product_zero a c B D ra rc o =
    ratio-zero 1 (lit< tt)
    ∙ ⊎_elim
    (λ e. sym (ap (λ q. q *ℚ ratio c D) (ap (λ z. ratio z B) e ∙ ratio-zero B (reduced_den a B ra)) ∙ zero-*ℚ (ratio c D)))
    (λ e. sym (ap (λ q. ratio a B *ℚ q) (ap (λ z. ratio z D) e ∙ ratio-zero D (reduced_den c D rc)) ∙ *ℚ-zero (ratio a B)))
    o
