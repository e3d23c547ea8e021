-- The multipliers of an edge's problem by template row and by guard.
use Rattle.std.specs.Prelude.{ℕ, suc, ℤ, List, [], ◌∷◌}
use Rattle.base_numbers.specs.Rational.{ℚ, zero_ℚ}
use Rattle.base_numbers.specs.Extended.{Ext, neg_inf, fin, pos_inf}

-- a multiplier for each template row, 0 where the bound isn't finite
unfoldable pub spread_one : Ext → (ℕ → ℚ) → ((ℕ → ℚ) → List ℚ) → List ℚ
spread_one neg_inf y rest = zero_ℚ ∷ rest y
spread_one (fin c) y rest = y 0 ∷ rest (λ k. y (suc k))
spread_one pos_inf y rest = zero_ℚ ∷ rest y

-- the multipliers of the template rows, by the rows' numbers
unfoldable pub spread : (ℕ → Ext) → List (List ℤ) → (ℕ → ℚ) → List ℚ
spread bounds [] y = []
spread bounds (row ∷ rows) y = spread_one (bounds 0) y (spread (λ r. bounds (suc r)) rows)

-- the multipliers behind those of the template rows
unfoldable pub skip_one : Ext → (ℕ → ℚ) → ((ℕ → ℚ) → (ℕ → ℚ)) → (ℕ → ℚ)
skip_one neg_inf y rest = rest y
skip_one (fin c) y rest = rest (λ k. y (suc k))
skip_one pos_inf y rest = rest y

-- the multipliers past those of all template rows
unfoldable pub skip : (ℕ → Ext) → List (List ℤ) → (ℕ → ℚ) → (ℕ → ℚ)
skip bounds [] y = y
skip bounds (row ∷ rows) y = skip_one (bounds 0) y (skip (λ r. bounds (suc r)) rows)
