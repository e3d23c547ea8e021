-- Products of integers.
use Rattle.std.proofs.Common.{◌≡◌, ◌*◌, ℕ, ℤ, ◌+ℤ◌, ◌*ℤ◌, ap, ◌∙◌, arith}
use Rattle.std.specs.Prelude.{◌-ℤ◌}
use Rattle.std.proofs.lemmas.Int.{ints}
use Rattle.std.proofs.Math.IntN.{*ℤ_comm}
use borrow.Author.Differences.{up, down, product_is, sum_is_lem, same_in}

-- products may be bracketed either way
pub times_assoc : (a b c : ℤ) → (a *ℤ b) *ℤ c ≡ a *ℤ (b *ℤ c)
times_assoc a b c =
    let ab = product_is a b in
    let bc = product_is b c in
    let by = λ (k : ℕ) (m n : ℕ) (e : m ≡ n). ap (λ x. x * k) e in
    let left = product_is (a *ℤ b) c in
    let right = product_is a (b *ℤ c) in
    let ups : up ((a *ℤ b) *ℤ c) ≡ up (a *ℤ (b *ℤ c)) =
    omega (arith, by (up c) _ _ ab.0, by (down c) _ _ ab.1, by (up a) _ _ bc.0, by (down a) _ _ bc.1) in
    let downs : down ((a *ℤ b) *ℤ c) ≡ down (a *ℤ (b *ℤ c)) =
    omega (arith, by (down c) _ _ ab.0, by (up c) _ _ ab.1, by (down a) _ _ bc.0, by (up a) _ _ bc.1) in
    same_in _ _ (omega (arith, ups, downs))

-- a number times a sum is the sum of the products
pub times_sum : (z a b : ℤ) → z *ℤ (a +ℤ b) ≡ z *ℤ a +ℤ z *ℤ b
times_sum z a b =
    let s = sum_is_lem a b in
    let t = sum_is_lem (z *ℤ a) (z *ℤ b) in
    let p = product_is z (a +ℤ b) in
    let q = product_is z a in
    let r = product_is z b in
    let g1 = ap (λ (n : ℕ). up z * n) s in
    let g2 = ap (λ (n : ℕ). down z * n) s in
    same_in (z *ℤ (a +ℤ b)) (z *ℤ a +ℤ z *ℤ b) (omega (arith, s, t, p.0, p.1, q.0, q.1, r.0, r.1, g1, g2))

-- a sum times a number is the sum of the products
pub sum_times : (a b z : ℤ) → (a +ℤ b) *ℤ z ≡ a *ℤ z +ℤ b *ℤ z
sum_times a b z = let c = *ℤ_comm (a +ℤ b) z in let p = *ℤ_comm z a in let q = *ℤ_comm z b in let t = times_sum z a b in
    c ∙ t ∙ ap (λ w. w +ℤ z *ℤ b) p ∙ ap (λ w. a *ℤ z +ℤ w) q

-- a number times a difference is the difference of the products
pub times_minus : (z a b : ℤ) → z *ℤ (a -ℤ b) ≡ z *ℤ a -ℤ z *ℤ b
times_minus z a b = let t = times_sum z (a -ℤ b) b in let e = ap (λ w. z *ℤ w) (back a b) in omega (arith, ints, t, e)
  where
    back : (a b : ℤ) → (a -ℤ b) +ℤ b ≡ a
    back a b = omega (arith, ints)
