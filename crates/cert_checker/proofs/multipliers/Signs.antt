-- Multipliers that are tested one by one.
use Rattle.std.proofs.Common.{◌≡◌, ℕ, zero, suc, ◌+◌, ◌<◌, ⊎_elim, List, [], ◌∷◌, length, get_or, subst, arith}
use Rattle.std.proofs.lemmas.Bool.{cases_lt}
use Rattle.base_numbers.specs.Rational.{ℚ, zero_ℚ, ◌≤ℚ◌}
use Rattle.base_numbers.specs.Vector.{AllNonneg}

-- each of multipliers that are at least 0 is at least 0
pub nonneg_at : (u : List ℚ) (i : ℕ) → AllNonneg u → i < length u → zero_ℚ ≤ℚ get_or u i zero_ℚ
nonneg_at [] i h l = absurd (omega (arith, l))
nonneg_at (x ∷ u) zero h l = h.0
nonneg_at (x ∷ u) (suc i) h l = nonneg_at u i h.1 (omega (arith, l))

-- multipliers each of which is at least 0 are at least 0
pub nonneg_all : (u : List ℚ) → ((i : ℕ) → i < length u → zero_ℚ ≤ℚ get_or u i zero_ℚ) → AllNonneg u
nonneg_all [] h = tt
nonneg_all (x ∷ u) h = (h 0 (omega arith), nonneg_all u (λ i l. h (suc i) (omega (arith, l))))

-- what is so of the first i numbers and of number i is so of one more
pub up_to_more : {P : ℕ → Type 0} (i : ℕ) → ((k : ℕ) → k < i → P k) → P i → (k : ℕ) → k < i + 1 → P k
up_to_more {P} i h p k l = ⊎_elim (λ s. h k s) (λ s. subst P (let q : i ≡ k = omega (arith, s, l) in q) p) (cases_lt k i)
