-- A sum over an index is the product of two lists, so a problem from lists says what the lists say.
use Rattle.std.proofs.Common.{◌≡◌, ℕ, zero, suc, ◌≤◌, List, [], ◌∷◌, length, ap, ◌∙◌, arith}
use Rattle.base_numbers.proofs.vector.Sums.{sum_first, sum_nothing}
use Rattle.base_numbers.specs.Rational.{ℚ, zero_ℚ, ◌+ℚ◌, ◌*ℚ◌}
use Rattle.base_numbers.specs.Vector.{sum_to, dot}
use Rattle.base_numbers.proofs.rational.Laws.{zero-*ℚ, *ℚ-zero}
use Rattle.lp_theory.specs.Listed.{at}

-- the sum of products below a bound that is no less than the first list's length
pub sum_is_dot : (u v : List ℚ) (n : ℕ) → length u ≤ n → sum_to n (λ k. at u k *ℚ at v k) ≡ dot u v
unfolding dot
sum_is_dot [] v n l = sum_nothing n (λ k. zero_ℚ *ℚ at v k) (λ k m. zero-*ℚ (at v k))
sum_is_dot (x ∷ u) [] n l = sum_nothing n (λ k. at (x ∷ u) k *ℚ zero_ℚ) (λ k m. *ℚ-zero (at (x ∷ u) k))
sum_is_dot (x ∷ u) (y ∷ v) zero l = absurd (omega (arith, l))
sum_is_dot (x ∷ u) (y ∷ v) (suc n) l = sum_first n (λ k. at (x ∷ u) k *ℚ at (y ∷ v) k)
    ∙ ap (λ s. x *ℚ y +ℚ s) (sum_is_dot u v n (omega (arith, l)))
