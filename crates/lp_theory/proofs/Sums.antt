-- Sums over an index with one term, of terms that vanish, with a positive term, and in two parts.
use Rattle.std.proofs.Common.{◌≡◌, ◌≢◌, ℕ, zero, suc, ◌<◌, [], ◌∷◌, refl, ap, sym, ◌∙◌}
use Rattle.base_numbers.proofs.vector.Sums.{sum_one}
use Rattle.base_numbers.specs.Rational.{ℚ, zero_ℚ, one_ℚ, ◌*ℚ◌}
use Rattle.base_numbers.specs.Vector.{sum_to}
use Rattle.base_numbers.proofs.rational.Laws.{zero-*ℚ, *ℚ_idl}
use Rattle.base_numbers.proofs.tactics.Ring.{ring, reads}
use Rattle.base_numbers.proofs.vector.Vectors.{sum_to_same}
use Rattle.lp_theory.specs.Dictionary.{delta}

-- a name at itself
pub delta_same : (i : ℕ) → delta i i ≡ one_ℚ
unfolding delta
delta_same zero = refl
delta_same (suc i) = delta_same i

-- a name at another
pub delta_other : (i k : ℕ) → i ≢ k → delta i k ≡ zero_ℚ
unfolding delta
delta_other zero zero h = absurd (h refl)
delta_other zero (suc k) h = refl
delta_other (suc i) zero h = refl
delta_other (suc i) (suc k) h = delta_other i k (λ e. h (ap suc e))

-- a sum with a unit row takes one term
pub sum-delta : (n i : ℕ) (f : ℕ → ℚ) → i < n → sum_to n (λ k. delta i k *ℚ f k) ≡ f i
sum-delta n i f h =
    sum_one n i (λ k. delta i k *ℚ f k) h (λ k l d. ap (λ s. s *ℚ f k) (delta_other i k (λ e. d (sym e))) ∙ zero-*ℚ (f k))
    ∙ ap (λ s. s *ℚ f i) (delta_same i) ∙ *ℚ_idl (f i)

-- the same with the unit row on the right
pub sum_delta_right : (n i : ℕ) (f : ℕ → ℚ) → i < n → sum_to n (λ k. f k *ℚ delta i k) ≡ f i
sum_delta_right n i f h = sum_to_same n (λ k. f k *ℚ delta i k) (λ k. delta i k *ℚ f k)
    (λ k l. ring (f k ∷ delta i k ∷ []) (search reads depth 40) refl) ∙ sum-delta n i f h
