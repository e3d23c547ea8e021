-- Products of a list with a point: as sums, as products of lists, of lists in two parts, and of split lists.
use Rattle.std.proofs.Common.{◌≡◌, ◌∙◌, ℕ, zero, suc, ◌<◌, ◌≤◌, List, [], ◌∷◌, ◌++◌, length, refl, sym, ap, arith}
use Rattle.base_numbers.proofs.vector.Sums.{sum_first, sum_nothing}
use Rattle.base_numbers.specs.Rational.{ℚ, zero_ℚ, ◌+ℚ◌, ◌*ℚ◌}
use Rattle.base_numbers.specs.Vector.{sum_to, dot}
use Rattle.base_numbers.proofs.rational.Laws.{zero-*ℚ, +ℚ_idl, +ℚ_assoc}
use Rattle.lp_theory.specs.Listed.{at}
use Rattle.lp_theory.proofs.listed.ListedSums.{sum_is_dot}
use Rattle.theory_transformers.specs.Limits.{product, shift, tabulate}

-- the product of a list with a point is the sum over enough columns
pub product_is_sum : (u : List ℚ) (n : ℕ) (x : ℕ → ℚ) → length u ≤ n → sum_to n (λ k. at u k *ℚ x k) ≡ product u x
unfolding product
product_is_sum [] n x l = sum_nothing n (λ k. zero_ℚ *ℚ x k) (λ k m. zero-*ℚ (x k))
product_is_sum (a ∷ u) zero x l = absurd (omega (arith, l))
product_is_sum (a ∷ u) (suc n) x l = sum_first n (λ k. at (a ∷ u) k *ℚ x k)
    ∙ ap (λ s. a *ℚ x 0 +ℚ s) (product_is_sum u n (λ k. x (suc k)) (omega (arith, l)))

-- at a list it is the product of lists
pub product-at : (u w : List ℚ) → product u (at w) ≡ dot u w
product-at u w = sym (product_is_sum u (length u) (at w) (omega arith)) ∙ sum_is_dot u w (length u) (omega arith)

-- and likewise at the list of enough entries
pub product-tabulate : (u : List ℚ) (n : ℕ) (x : ℕ → ℚ) → length u ≤ n → dot u (tabulate n x) ≡ product u x
unfolding product dot
product-tabulate [] n x l = refl
product-tabulate (a ∷ u) zero x l = absurd (omega (arith, l))
product-tabulate (a ∷ u) (suc n) x l = ap (λ s. a *ℚ x 0 +ℚ s) (product-tabulate u n (λ k. x (suc k)) (omega (arith, l)))

-- a list in two parts
pub product-append : (u v : List ℚ) (x : ℕ → ℚ) → product (u ++ v) x ≡ product u x +ℚ product v (shift (length u) x)
unfolding product
product-append [] v x = sym (+ℚ_idl (product v x))
product-append (a ∷ u) v x = ap (λ s. a *ℚ x 0 +ℚ s) (product-append u v (λ k. x (suc k)))
    ∙ sym (+ℚ_assoc (a *ℚ x 0) (product u (λ k. x (suc k))) (product v (shift (length u) (λ k. x (suc k)))))

-- entries that are the same
pub tabulate_same : (n : ℕ) (x y : ℕ → ℚ) → ((k : ℕ) → k < n → x k ≡ y k) → tabulate n x ≡ tabulate n y
tabulate_same zero x y h = refl
tabulate_same (suc n) x y h = ap (λ s. s ∷ tabulate n (λ k. x (suc k))) (h 0 (omega arith))
    ∙ ap (λ t. y 0 ∷ t) (tabulate_same n (λ k. x (suc k)) (λ k. y (suc k)) (λ k l. h (suc k) (omega arith)))

-- the list of a point's first n entries has n entries
pub length-tabulate : (n : ℕ) (x : ℕ → ℚ) → length (tabulate n x) ≡ n
length-tabulate zero x = refl
length-tabulate (suc n) x = ap suc (length-tabulate n (λ k. x (suc k)))
