-- The values of multiples, and of a sum less a bound.
use Rattle.std.proofs.Common.{◌≡◌, ◌↔◌, ◌*◌, ℕ, ℤ, pos, ◌+ℤ◌, ◌*ℤ◌, ◌≤ℤ◌, List, [], ◌∷◌, ap, ap₂, ◌∙◌, arith}
use Rattle.std.specs.Prelude.{◌-ℤ◌}
use Rattle.std.proofs.lemmas.Int.{ints}
use borrow.Author.Differences.{up, down, product_is, sum_is_lem, same_in}
use Rattle.lang_tree.specs.Meaning.{State, dot}
use Rattle.lang_meaning.specs.Forms.{products}

times_assoc : (a b c : ℤ) → (a *ℤ b) *ℤ c ≡ a *ℤ (b *ℤ c)
times_assoc a b c =
    let ab = product_is a b in
    let bc = product_is b c in
    let by = λ (k : ℕ) (m n : ℕ) (e : m ≡ n). ap (λ x. x * k) e in
    let left = product_is (a *ℤ b) c in
    let right = product_is a (b *ℤ c) in
    let ups : up ((a *ℤ b) *ℤ c) ≡ up (a *ℤ (b *ℤ c)) =
    omega (arith, by (up c) _ _ ab.0, by (down c) _ _ ab.1, by (up a) _ _ bc.0, by (down a) _ _ bc.1) in
    let downs : down ((a *ℤ b) *ℤ c) ≡ down (a *ℤ (b *ℤ c)) =
    omega (arith, by (down c) _ _ ab.0, by (up c) _ _ ab.1, by (down a) _ _ bc.0, by (up a) _ _ bc.1) in
    same_in _ _ (omega (arith, ups, downs))

times_sum : (z a b : ℤ) → z *ℤ a +ℤ z *ℤ b ≡ z *ℤ (a +ℤ b)
times_sum z a b =
    let s = sum_is_lem a b in
    let t = sum_is_lem (z *ℤ a) (z *ℤ b) in
    let p = product_is z (a +ℤ b) in
    let q = product_is z a in
    let r = product_is z b in
    let g1 = ap (λ (n : ℕ). up z * n) s in
    let g2 = ap (λ (n : ℕ). down z * n) s in
    same_in (z *ℤ a +ℤ z *ℤ b) (z *ℤ (a +ℤ b)) (omega (arith, s, t, p.0, p.1, q.0, q.1, r.0, r.1, g1, g2))

-- a multiple of a row has the multiple of its value
pub dot_products : (z : ℤ) (row : List ℤ) (x : State) → dot (products z row) x ≡ z *ℤ dot row x
dot_products z [] x = omega (arith, ints)
dot_products z (c ∷ cs) [] = omega (arith, ints)
dot_products z (c ∷ cs) (y ∷ x) =
    ap₂ (λ (a b : ℤ). a +ℤ b) (times_assoc z c y) (dot_products z cs x) ∙ times_sum z (c *ℤ y) (dot cs x)

-- a number less another is at most 0 exactly where the one is at most the other
pub at_most_zero : (z n w : ℤ) → z ≡ w → ((z +ℤ (pos 0 -ℤ n)) ≤ℤ pos 0) ↔ (w ≤ℤ n)
at_most_zero z n w e = (λ h. omega (arith, ints), λ h. omega (arith, ints))

-- and is 0 exactly where they are equal
pub equals_zero : (z n w : ℤ) → z ≡ w → ((z +ℤ (pos 0 -ℤ n)) ≡ pos 0) ↔ (w ≡ n)
equals_zero z n w e = (λ h. omega (arith, ints), λ h. omega (arith, ints))
