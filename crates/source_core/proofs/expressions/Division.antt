-- Quotients and remainders that are truncated towards 0, as the condition of a quotient says.
use Rattle.std.proofs.Common.{◌≡◌, ◌≢◌, ◌⊎◌, inl, inr, ⊎_elim, ◌≤◌, ◌<◌, ◌%◌, ℕ, zero, suc, true, refl, ap, ◌∙◌, arith}
use Rattle.std.specs.Prelude.{ℤ, pos, negsuc, ◌-ℤ◌, ◌*ℤ◌, ◌≤ℤ◌, neg_ℤ, nat_abs, int_div, int_rem, unsigned_abs}
use Rattle.std.proofs.lemmas.Int.{ints, quot-rem, unsigned_abs-mul}
use Rattle.std.proofs.Math.Nat.{mod-lt, mul-le-mul, le_refl}
use Rattle.source_core.proofs.forms.Integers.{times_minus}
use Rattle.std.proofs.Math.IntN.{*ℤ_comm}
use Rattle.lang_tree.specs.declared.form.Form.{Form}
use Rattle.lang_tree.specs.Meaning.{State, value, MayBe}
use Rattle.source_core.specs.Forms.{constant_form, variable_form, scaled, minus}
use Rattle.source_core.specs.Elaborated.{divides}
use Rattle.source_core.proofs.forms.Forms.{value-minus, value-constant, value-scaled}

-- the sign of a remainder is that of the dividend, and it is less than the divisor
abbrev Remains : ℤ → ℤ → ℤ → Type 0
Remains v c r =
    ((pos 0 ≤ℤ v) × (pos 0 ≤ℤ r) × (r ≤ℤ (pos (nat_abs c) -ℤ pos 1)))
    ⊎ ((v ≤ℤ negsuc 0) × (r ≤ℤ pos 0) × ((pos 1 -ℤ pos (nat_abs c)) ≤ℤ r))

above_zero : (c : ℤ) → c ≢ pos 0 → 0 < nat_abs c
above_zero (pos zero) h = absurd (h refl)
above_zero (pos (suc n)) h = omega arith
above_zero (negsuc n) h = omega arith

no_more : (r : ℕ) → neg_ℤ (pos r) ≤ℤ pos 0
no_more zero = omega (arith, ints)
no_more (suc r) = omega (arith, ints)

no_less : (r k : ℕ) → r < k → (pos 1 -ℤ pos k) ≤ℤ neg_ℤ (pos r)
no_less zero k h = omega (arith, ints, h)
no_less (suc r) k h = omega (arith, ints, h)

remains : (v c : ℤ) → c ≢ pos 0 → Remains v c (int_rem v c)
remains (pos n) c h =
    let a = above_zero c h in
    let b = mod-lt n a in inl (omega (arith, ints), omega (arith, ints), omega (arith, ints, a, b))
remains (negsuc n) c h =
    let a = above_zero c h in
    inr (omega (arith, ints), no_more (suc n % nat_abs c), no_less (suc n % nat_abs c) (nat_abs c) (mod-lt (suc n) a))

-- what is left of v when c times its quotient is taken away
pub rest_is : (v c : ℤ) → v -ℤ c *ℤ int_div v c ≡ int_rem v c
rest_is v c = let q = quot-rem v c in let s = *ℤ_comm c (int_div v c) in omega (arith, ints, q, s)

-- the quotient is one that the condition of a quotient allows
pub quotient_divides : (f : Form) (c : ℤ) (h : ℕ) (y : State) → c ≢ pos 0 → value (variable_form h) y ≡ int_div (value f y) c
    → MayBe true (divides f c h) y
quotient_divides f c h y n e =
    let rest = minus f (scaled c (variable_form h)) in
    let over = λ (g : Form) (k : ℤ). value-minus g (constant_form k) y ∙ ap (λ w. value g y -ℤ w) (value-constant k y) in
    let is : value rest y ≡ int_rem (value f y) c =
    value-minus f (scaled c (variable_form h)) y
    ∙ ap (λ w. value f y -ℤ w) (value-scaled c (variable_form h) y ∙ ap (λ w. c *ℤ w) e) ∙ rest_is (value f y) c in
    let v = value f y in
    let r = int_rem v c in
    let k = pos (nat_abs c) in
    let a = over f (pos 0) in
    let b = over rest (pos 0) in
    let d = over rest (k -ℤ pos 1) in
    let i = over f (negsuc 0) in
    let j = over rest (pos 1 -ℤ k) in
    ⊎_elim
    (λ p. inl (
      ((at_least _ v (pos 0) a p.0), (at_least _ r (pos 0) (b ∙ ap (λ w. w -ℤ pos 0) is) p.1)),
      at_most _ r (k -ℤ pos 1) (d ∙ ap (λ w. w -ℤ (k -ℤ pos 1)) is) p.2,
    ))
    (λ p. inr (
      ((at_most _ v (negsuc 0) i p.0), (at_most _ r (pos 0) (b ∙ ap (λ w. w -ℤ pos 0) is) p.1)),
      at_least _ r (pos 1 -ℤ k) (j ∙ ap (λ w. w -ℤ (pos 1 -ℤ k)) is) p.2,
    ))
    (remains v c n)
  where
    at_least : (z v k : ℤ) → z ≡ v -ℤ k → k ≤ℤ v → pos 0 ≤ℤ z
    at_least z v k e h = omega (arith, ints, e, h)

    at_most : (z v k : ℤ) → z ≡ v -ℤ k → v ≤ℤ k → z ≤ℤ pos 0
    at_most z v k e h = omega (arith, ints, e, h)

-- ---- there is one such quotient
no_multiple : (c k d : ℤ) → c *ℤ k ≡ d → unsigned_abs d < unsigned_abs c → k ≡ pos 0
no_multiple c (pos zero) d e l = refl
no_multiple c (pos (suc m)) d e l =
    let a = unsigned_abs-mul c (pos (suc m)) in
    let b = ap unsigned_abs e in
    let t = mul-le-mul (le_refl (unsigned_abs c)) (one_more m) in absurd (omega (arith, a, b, l, t))
  where
    one_more : (m : ℕ) → 1 ≤ suc m
    one_more m = omega arith
no_multiple c (negsuc m) d e l =
    let a = unsigned_abs-mul c (negsuc m) in
    let b = ap unsigned_abs e in
    let t = mul-le-mul (le_refl (unsigned_abs c)) (one_more m) in absurd (omega (arith, a, b, l, t))
  where
    one_more : (m : ℕ) → 1 ≤ suc m
    one_more m = omega arith

-- two numbers on one side of 0 that are below a third are less apart than it
apart_by : (r s : ℤ) (k : ℕ) → 0 < k → ((pos 0 ≤ℤ r) × (r ≤ℤ (pos k -ℤ pos 1)) × (pos 0 ≤ℤ s) × (s ≤ℤ (pos k -ℤ pos 1)))
    ⊎ ((r ≤ℤ pos 0) × ((pos 1 -ℤ pos k) ≤ℤ r) × (s ≤ℤ pos 0) × ((pos 1 -ℤ pos k) ≤ℤ s)) → unsigned_abs (r -ℤ s) < k
apart_by r s k p h = within (r -ℤ s) k (⊎_elim (λ a. omega (arith, ints, a.1, a.2, p)) (λ a. omega (arith, ints, a.0, a.3, p)) h)
    (⊎_elim (λ a. omega (arith, ints, a.0, a.3, p)) (λ a. omega (arith, ints, a.1, a.2, p)) h)
  where
    within : (d : ℤ) (k : ℕ) → d ≤ℤ (pos k -ℤ pos 1) → (pos 1 -ℤ pos k) ≤ℤ d → unsigned_abs d < k
    within (pos n) k a b = omega (arith, ints, a, b)
    within (negsuc n) k a b = omega (arith, ints, a, b)

-- a number that leaves a rest as the condition says is the quotient
one_quotient : (v c q : ℤ) → c ≢ pos 0 → Remains v c (v -ℤ c *ℤ q) → q ≡ int_div v c
one_quotient v c q n h =
    let k = int_div v c in
    let s = int_rem v c in
    let r = v -ℤ c *ℤ q in
    let a = above_zero c n in
    let is = rest_is v c in
    let d = times_minus c k q in
    let e : c *ℤ (k -ℤ q) ≡ r -ℤ s = omega (arith, ints, d, is) in
    let l : unsigned_abs (r -ℤ s) < nat_abs c = apart_by r s (nat_abs c) a (⊎_elim
    (λ x. ⊎_elim (λ y. inl (x.1, x.2, y.1, y.2)) (λ y. absurd (never v x.0 y.0)) (remains v c n))
    (λ x. ⊎_elim (λ y. absurd (never v y.0 x.0)) (λ y. inr (x.1, x.2, y.1, y.2)) (remains v c n)) h) in
    let z = no_multiple c (k -ℤ q) (r -ℤ s) e l in omega (arith, ints, z)
  where
    never : (v : ℤ) → pos 0 ≤ℤ v → v ≤ℤ negsuc 0 → ⊥
    never v a b = omega (arith, ints, a, b)

-- a number that the condition of a quotient allows is the quotient
pub divides_quotient : (f : Form) (c : ℤ) (h : ℕ) (y : State) → c ≢ pos 0 → MayBe true (divides f c h) y
    → value (variable_form h) y ≡ int_div (value f y) c
divides_quotient f c h y n m = one_quotient (value f y) c (value (variable_form h) y) n (⊎_elim
    (λ p. inl (
      at_least _ (value f y) (pos 0) (over f (pos 0)) p.0.0,
      at_least _ r (pos 0) (rest_over (pos 0)) p.0.1,
      at_most _ r (pos (nat_abs c) -ℤ pos 1) (rest_over (pos (nat_abs c) -ℤ pos 1)) p.1,
    ))
    (λ p. inr (
      at_most _ (value f y) (negsuc 0) (over f (negsuc 0)) p.0.0,
      at_most _ r (pos 0) (rest_over (pos 0)) p.0.1,
      at_least _ r (pos 1 -ℤ pos (nat_abs c)) (rest_over (pos 1 -ℤ pos (nat_abs c))) p.1,
    )) m)
  where
    r : ℤ
    r = value f y -ℤ c *ℤ value (variable_form h) y

    over : (g : Form) (k : ℤ) → value (minus g (constant_form k)) y ≡ value g y -ℤ k
    over g k = value-minus g (constant_form k) y ∙ ap (λ w. value g y -ℤ w) (value-constant k y)

    rest_over : (k : ℤ) → value (minus (minus f (scaled c (variable_form h))) (constant_form k)) y ≡ r -ℤ k
    rest_over k = over (minus f (scaled c (variable_form h))) k ∙ ap (λ w. w -ℤ k) (value-minus f (scaled c (variable_form h)) y
        ∙ ap (λ w. value f y -ℤ w) (value-scaled c (variable_form h) y))

    at_least : (z v k : ℤ) → z ≡ v -ℤ k → pos 0 ≤ℤ z → k ≤ℤ v
    at_least z v k e h = omega (arith, ints, e, h)

    at_most : (z v k : ℤ) → z ≡ v -ℤ k → z ≤ℤ pos 0 → v ≤ℤ k
    at_most z v k e h = omega (arith, ints, e, h)
