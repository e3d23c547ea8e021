-- What the row functions of a dictionary leave in its list of entries.
use Rattle.std.specs.Prelude.{◌≡◌, ℕ, ◌+◌, ◌-◌, ◌*◌, ◌<◌, ◌≤◌, ◌≢◌, ◌⊎◌, List, [], ◌++◌, cond, eqb}
use Rattle.base_numbers.specs.Rational.{ℚ}
use Rattle.lp_theory.specs.Table.{skip}
use Rattle.base_fractions.specs.Operation.{Operation}
use Rattle.lp_dictionary.specs.Listed.{joined}
use Rattle.lp_dictionary.specs.Formulas.{divided_row, combined_row}
use Rattle.lp_dictionary.specs.PivotOperations.{division_row_operations, combination_row_operations}
use Rattle.lp_dictionary.specs.Cells.{cell, row_from}

-- the n entries from start on are those of f, and all others are as before
pub record SetsRow {F : Type 0} (m : F → ℚ) (start n : ℕ) (f : ℕ → ℚ) (old new : List F) : Type 0 where
  pub inside : (k : ℕ) → k < n → cell m new (start + k) ≡ f k
  pub outside : (p : ℕ) → (p < start) ⊎ (start + n ≤ p) → cell m new p ≡ cell m old p

-- the first n rows but r are combined with the row r, and all other entries are as before
pub record CombinesRows {F : Type 0} (m : F → ℚ) (n r stride c : ℕ) (old new : List F) : Type 0 where
  pub others : (i k : ℕ) → i < n → i ≢ r → k < stride →
      cell m new (i * stride + k) ≡ combined_row (row_from m old (i * stride)) (row_from m old (r * stride)) c k
  pub pivot_row : (k : ℕ) → k < stride → cell m new (r * stride + k) ≡ cell m old (r * stride + k)
  pub later : (p : ℕ) → n * stride ≤ p → cell m new p ≡ cell m old p

-- the operations of combining the first n rows but r with the row r
unfoldable pub rows_operations : {F : Type 0} → (F → ℚ) → List F → ℕ → ℕ → ℕ → ℕ → List Operation
rows_operations m xs n r stride c = joined n (λ i. cond (eqb i r) []
    (combination_row_operations stride (row_from m xs (i * stride)) (row_from m xs (r * stride)) c))

-- the first n rows are moved forward, without the row r and the column c
pub record ShiftsRows {F : Type 0} (m : F → ℚ) (n r stride c : ℕ) (old new : List F) : Type 0 where
  pub moved : (i k : ℕ) → i < n → k < stride - 1 → cell m new (i * (stride - 1) + k) ≡ cell m old (skip r i * stride + skip c k)
  pub later : (p : ℕ) → n * (stride - 1) ≤ p → cell m new p ≡ cell m old p

-- the n rows after the pivot at the row r and the column c
pub record Exchanges {F : Type 0} (m : F → ℚ) (n r stride c : ℕ) (old new : List F) : Type 0 where
  pub pivot_row : (k : ℕ) → k < stride → cell m new (r * stride + k) ≡ divided_row (row_from m old (r * stride)) c k
  pub others : (i k : ℕ) → i < n → i ≢ r → k < stride →
      cell m new (i * stride + k) ≡ combined_row (row_from m old (i * stride)) (divided_row (row_from m old (r * stride)) c) c k

-- the operations of that pivot
unfoldable pub exchange_operations : {F : Type 0} → (F → ℚ) → List F → ℕ → ℕ → ℕ → ℕ → List Operation
exchange_operations m xs n r stride c =
    division_row_operations stride (row_from m xs (r * stride)) c
    ++ joined n (λ i. cond (eqb i r) [] (combination_row_operations stride (row_from m xs (i * stride))
    (divided_row (row_from m xs (r * stride)) c) c))
