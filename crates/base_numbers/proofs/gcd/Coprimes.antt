-- Numbers with no common divisor, and the greatest common divisor by halves and differences.
use Rattle.std.proofs.Common.{◌≡◌, ◌≢◌, ℕ, zero, suc, ◌-◌, ◌*◌, ◌/◌, ◌%◌, ◌^◌, ◌<◌, ◌≤◌, min, ⊎_elim, refl, ap, ap₂, sym, ◌∙◌, subst, arith}
use Rattle.std.proofs.Common.{mul_comm, one-mul}
use Prim.Native.Nat.{◌∣◌}
use native.Mathlib.Nat.{dvd_refl, dvd_trans, dvd-mul_right_of_dvd, mul-dvd-mul_right, eq-one_of_dvd-one, pow-suc, mul-div_cancel}
use Rattle.std.specs.Int.{abs_diff}
use Rattle.std.proofs.lemmas.Bool.{cases_lt}
use Rattle.std.proofs.lemmas.Nat.{pow-add, shr-shr}
use lib.Count.{count_trailing_zeros, under}
use Rattle.std.proofs.lemmas.Nat.Gcd.{same_from_IsGcd, IsGcd-swap, IsGcd-from_sub}
use Rattle.base_numbers.specs.Gcd.{gcd, gcd_is, gcd_pos, gcd-times, divides_other}
use Rattle.base_numbers.proofs.gcd.Gcds.{gcd-step, gcd-zero, gcd_le}

-- the greatest common divisor doesn't depend on the order of the two numbers
pub gcd_comm : (a b : ℕ) → gcd a b ≡ gcd b a
gcd_comm a b = same_from_IsGcd b a (gcd a b) (gcd b a) (IsGcd-swap a b (gcd a b) (gcd_is a b)) (gcd_is b a)

-- a common factor comes out
pub gcd-scale : (a b c : ℕ) → gcd (a * c) (b * c) ≡ gcd a b * c
gcd-scale a b c =
    same_from_IsGcd (a * c) (b * c) (gcd (a * c) (b * c)) (gcd a b * c) (gcd_is (a * c) (b * c))
    (mul-dvd-mul_right (gcd a b) (gcd_is a b).0 c, mul-dvd-mul_right (gcd a b) (gcd_is a b).1 c, λ d p q. gcd-times a b c d p q)

gcd_sub : (a b : ℕ) → b ≤ a → gcd (a - b) b ≡ gcd a b
gcd_sub a b h = same_from_IsGcd a b (gcd (a - b) b) (gcd a b) (IsGcd-from_sub a b (gcd (a - b) b) h (gcd_is (a - b) b)) (gcd_is a b)

-- two numbers whose greatest common divisor is 1
pub record Coprime (a b : ℕ) : Type 0 where
  -- their greatest common divisor is 1
  pub one : gcd a b ≡ 1

-- two numbers each of whose common divisors divides 1 have no common divisor but 1
pub coprime_by : {a b : ℕ} → ((d : ℕ) → d ∣ a → d ∣ b → d ∣ 1) → Coprime a b
coprime_by {a} {b} h = record { one = eq-one_of_dvd-one (h (gcd a b) (gcd_is a b).0 (gcd_is a b).1) }

-- a common divisor of two numbers with no common divisor but 1 divides 1
pub coprime_divisor : {a b : ℕ} → Coprime a b → (d : ℕ) → d ∣ a → d ∣ b → d ∣ 1
coprime_divisor {a} {b} c d p q = subst (λ x. d ∣ x) c.one ((gcd_is a b).2 d p q)

-- having no common divisor doesn't depend on the order of the two numbers
pub coprime_sym : {a b : ℕ} → Coprime a b → Coprime b a
coprime_sym {a} {b} c = record { one = gcd_comm b a ∙ c.one }

-- divisors of two such numbers are such numbers
pub coprime_of_dvd : {a b : ℕ} (x y : ℕ) → Coprime a b → x ∣ a → y ∣ b → Coprime x y
coprime_of_dvd {a} {b} x y c p q = coprime_by (λ d s t. coprime_divisor c d (dvd_trans d s p) (dvd_trans d t q))

-- Euclid's lemma
pub coprime_divides : {a b : ℕ} (c : ℕ) → Coprime a b → b ∣ a * c → b ∣ c
coprime_divides {a} {b} c h p = divides_other a b c h.one p

-- a product of two numbers that each have no common divisor with a third has none with it either
pub coprime_mul : {a b c : ℕ} → Coprime a c → Coprime b c → Coprime (a * b) c
coprime_mul {a} {b} {c} h k = coprime_by (λ d p q. coprime_divisor k d (coprime_divides b (coprime_of_dvd a d h (dvd_refl a) q) p) q)

-- a number that has no common divisor with either of two numbers has none with their product
pub coprime_mul_right : {a b c : ℕ} → Coprime a b → Coprime a c → Coprime a (b * c)
coprime_mul_right h k = coprime_sym (coprime_mul (coprime_sym h) (coprime_sym k))

-- no number has a common divisor with 1 but 1
pub coprime-one : (a : ℕ) → Coprime a 1
coprime-one a = record { one = eq-one_of_dvd-one (gcd_is a 1).1 }

-- the quotients of two numbers by their greatest common divisor have no common divisor
pub coprime_quotients : (a b x y g : ℕ) → 0 < b → g ≡ gcd a b → x * g ≡ a → y * g ≡ b → Coprime x y
coprime_quotients a b x y g h e p q =
    let some : 0 < g = subst (λ z. 0 < z) (sym e) (gcd_pos a b h) in
    let k : gcd x y * g ≡ 1 * g = sym (gcd-scale x y g) ∙ ap₂ gcd p q ∙ sym e ∙ sym (one-mul g) in
    record { one = sym (mul-div_cancel (gcd x y) some) ∙ ap (λ z. z / g) k ∙ mul-div_cancel 1 some }

-- an odd number has no common divisor with a power of 2
odd_coprime-pow : (a k : ℕ) → a % 2 ≡ 1 → Coprime a (2 ^ k)
odd_coprime-pow a zero h = coprime-one a
odd_coprime-pow a (suc k) h = subst (λ x. Coprime a x) (sym (pow-suc 2 k))
    (coprime_mul_right (odd_coprime-pow a k h) record { one = sym (gcd-step a 2) ∙ ap (gcd 2) h ∙ (coprime-one 2).one })

-- a power of 2 may be dropped beside an odd number
gcd_odd : (a b k : ℕ) → a % 2 ≡ 1 → gcd a (b * 2 ^ k) ≡ gcd a b
gcd_odd a b k h =
    same_from_IsGcd a b (gcd a (b * 2 ^ k)) (gcd a b)
    (let g = gcd_is a (b * 2 ^ k) in (
      g.0,
      coprime_divides b (coprime_sym (coprime_of_dvd (gcd a (b * 2 ^ k)) (2 ^ k) (odd_coprime-pow a k h) g.0 (dvd_refl (2 ^ k))))
          (subst (λ x. gcd a (b * 2 ^ k) ∣ x) (mul_comm b (2 ^ k)) g.1),
      λ d p q. g.2 d p (dvd-mul_right_of_dvd d q (2 ^ k)),
    ))
    (gcd_is a b)

-- the common powers of 2 apart
gcd_twos : (a b i j : ℕ) → a % 2 ≡ 1 → b % 2 ≡ 1 → gcd (a * 2 ^ i) (b * 2 ^ j) ≡ gcd a b * 2 ^ min i j
gcd_twos a b i j h k = ⊎_elim (λ l. left l) (λ l. right l) (cases_lt i j)
  where
    left : i < j → gcd (a * 2 ^ i) (b * 2 ^ j) ≡ gcd a b * 2 ^ min i j
    left l =
        let e : b * 2 ^ j ≡ b * 2 ^ (j - i) * 2 ^ i = ap (λ n. b * 2 ^ n) (omega (arith, l)) ∙ ap (λ x. b * x) (pow-add 2 (j - i) i)
        ∙ omega arith in
        ap (gcd (a * 2 ^ i)) e ∙ gcd-scale a (b * 2 ^ (j - i)) (2 ^ i) ∙ ap₂ (λ x n. x * 2 ^ n) (gcd_odd a b (j - i) h) (omega (arith, l))

    right : j ≤ i → gcd (a * 2 ^ i) (b * 2 ^ j) ≡ gcd a b * 2 ^ min i j
    right l =
        let e : a * 2 ^ i ≡ a * 2 ^ (i - j) * 2 ^ j = ap (λ n. a * 2 ^ n) (omega (arith, l)) ∙ ap (λ x. a * x) (pow-add 2 (i - j) j)
        ∙ omega arith in
        ap (λ x. gcd x (b * 2 ^ j)) e ∙ gcd-scale (a * 2 ^ (i - j)) b (2 ^ j)
        ∙ ap₂ (λ x n. x * 2 ^ n) (gcd_comm (a * 2 ^ (i - j)) b ∙ gcd_odd b a (i - j) k ∙ gcd_comm b a) (omega (arith, l))

-- a number above 0 without its factors 2
odd_part_by : (k n d : ℕ) → n % 2 ≡ d → 0 < n → (0 < n / 2 → (n / 2 / 2 ^ count_trailing_zeros k (n / 2)
    * 2 ^ count_trailing_zeros k (n / 2) ≡ n / 2) × (n / 2 / 2 ^ count_trailing_zeros k (n / 2) % 2 ≡ 1))
    → (n / 2 ^ under d (count_trailing_zeros k (n / 2)) * 2 ^ under d (count_trailing_zeros k (n / 2)) ≡ n)
    × (n / 2 ^ under d (count_trailing_zeros k (n / 2)) % 2 ≡ 1)
odd_part_by k n (suc d) e h f = (omega (arith, e), omega (arith, e))
odd_part_by k n zero e h f =
    let t = count_trailing_zeros k (n / 2) in
    let p = f (omega (arith, e, h)) in
    let half : n / 2 ^ suc t ≡ n / 2 / 2 ^ t = ap (λ j. n / 2 ^ j) (omega arith) ∙ sym (shr-shr n 1 t) in
    (ap (λ x. x * 2 ^ suc t) half ∙ ap (λ x. n / 2 / 2 ^ t * x) (pow-suc 2 t) ∙ omega (arith, p.0, e), ap (λ x. x % 2) half ∙ p.1)

-- a number above 0 without its factors 2 is odd, and times that power of 2 it is the number
pub odd_part : (k n : ℕ) → 0 < n → n < 2 ^ k → (n / 2 ^ count_trailing_zeros k n * 2 ^ count_trailing_zeros k n ≡ n)
    × (n / 2 ^ count_trailing_zeros k n % 2 ≡ 1)
unfolding count_trailing_zeros
odd_part zero n h l = absurd (omega arith)
odd_part (suc k) n h l = odd_part_by k n (n % 2) refl h (λ p. odd_part k (n / 2) p (omega (arith, pow-suc 2 k, l)))

-- two odd numbers may give way to the lesser and their halved difference
pub halved_gcd : (k x y m gap : ℕ) → x % 2 ≡ 1 → y % 2 ≡ 1 → x ≢ y → gap < 2 ^ k → m ≡ min x y → gap ≡ abs_diff x y →
    (gcd m (gap / 2 ^ count_trailing_zeros k gap) ≡ gcd x y) × (m % 2 ≡ 1) × (gap / 2 ^ count_trailing_zeros k gap % 2 ≡ 1)
halved_gcd k x y m gap ox oy ne l em eg =
    let p = odd_part k gap (omega (arith, eg, ne)) l in
    let odd : m % 2 ≡ 1 = ⊎_elim (λ h. omega (arith, em, h, ox)) (λ h. omega (arith, em, h, oy)) (cases_lt x y) in
    (sym (gcd_odd m (gap / 2 ^ count_trailing_zeros k gap) (count_trailing_zeros k gap) odd) ∙ ap (gcd m) p.0 ∙ lesser, odd, p.1)
  where
    lesser : gcd m gap ≡ gcd x y
    lesser = ⊎_elim
        (λ h. ap₂ gcd (omega (arith, em, h)) (omega (arith, eg, h)) ∙ gcd_comm x (y - x) ∙ gcd_sub y x (omega (arith, h)) ∙ gcd_comm y x)
        (λ h. ap₂ gcd (omega (arith, em, h)) (omega (arith, eg, h)) ∙ gcd_comm y (x - y) ∙ gcd_sub x y h)
        (cases_lt x y)

-- the greatest common divisor of a number and itself is the number
pub gcd_self : (a : ℕ) → gcd a a ≡ a
gcd_self a = same_from_IsGcd a a (gcd a a) a (gcd_is a a) (dvd_refl a, dvd_refl a, λ d p q. p)

-- the greatest common divisor of 0 and a number is the number
pub gcd_zero_left : (b : ℕ) → gcd 0 b ≡ b
gcd_zero_left b = gcd_comm 0 b ∙ gcd-zero b 0 refl

-- the greatest common divisor of 1 and a number is 1
pub gcd_one_left : (b : ℕ) → gcd 1 b ≡ 1
gcd_one_left b = gcd_comm 1 b ∙ (coprime-one b).one

-- the greatest common divisor of two numbers of 64 bits is that of their odd parts, times the lesser of their powers of 2
pub gcd_shifted : (a b o m : ℕ) → 0 < a → 0 < b → a < 2 ^ 64 → b < 2 ^ 64
    → o ≡ gcd (a / 2 ^ count_trailing_zeros 64 a) (b / 2 ^ count_trailing_zeros 64 b) →
    m ≡ min (count_trailing_zeros 64 a) (count_trailing_zeros 64 b) → o * 2 ^ m % 2 ^ 64 ≡ gcd a b
gcd_shifted a b o m ha hb la lb eo em =
    let p = odd_part 64 a ha la in
    let q = odd_part 64 b hb lb in
    let whole : o * 2 ^ m ≡ gcd a b =
    ap₂ (λ x k. x * 2 ^ k) eo em ∙ sym (gcd_twos (a / 2 ^ count_trailing_zeros 64 a) (b / 2 ^ count_trailing_zeros 64 b)
    (count_trailing_zeros 64 a) (count_trailing_zeros 64 b) p.1 q.1) ∙ ap₂ gcd p.0 q.0 in
    let small : gcd a b < 2 ^ 64 = let l = gcd_le a b hb in omega (arith, l, lb) in
    ap (λ x. x % 2 ^ 64) whole ∙ kept (gcd a b) small
  where
    kept : (x : ℕ) → x < 2 ^ 64 → x % 2 ^ 64 ≡ x
    kept x l = omega (arith, l)
