-- What the row functions leave in rows of entries.
use Rattle.std.specs.Prelude.{◌≢◌, ℕ, ◌<◌, Bool, cond, eqb, List, [], ◌++◌, map, get_or}
use Rattle.base_numbers.specs.Rational.{ℚ, ◌+ℚ◌, ◌*ℚ◌}
use Rattle.base_fractions.specs.Operation.{Operation}
use Rattle.lp_dictionary.specs.Listed.{joined}
use Rattle.lp_dictionary.specs.Formulas.{divided_row, combined_row}
use Rattle.lp_dictionary.specs.PivotOperations.{division_row_operations, combination_row_operations}
use Rattle.lp_dictionary.specs.declared.entry.Entry.{Entry}
use Rattle.lp_sparse.specs.declared.row.SparseRow.{SparseRow}
use Rattle.lp_dictionary.specs.Entries.{value_at, Rises, HasNoZero}
use Rattle.lp_dictionary.specs.Keeps.{Keeps}

-- the entries of a row by its number, none past the last row
abbrev pub row_at : {F : Type 0} → List (SparseRow F) → ℕ → List (Entry F)
row_at rows i = get_or (map (λ r. r.entries.items) rows) i []

-- the numbers of a row
abbrev pub numbers : {F : Type 0} → (F → ℚ) → List (SparseRow F) → ℕ → ℕ → ℚ
numbers m rows i = value_at m (row_at rows i)

-- each row rises below n
abbrev pub EachRises : {F : Type 0} → ℕ → List (SparseRow F) → Type 0
EachRises n rows = (i : ℕ) → Rises 0 n (row_at rows i)

-- no row has an entry that is 0
abbrev pub NoZeros : {F : Type 0} → (F → ℚ) → List (SparseRow F) → Type 0
NoZeros m rows = (i : ℕ) → HasNoZero m (row_at rows i)

-- formulas 3 and 4 where the product of formula 3 is known: p in the pivot's column, else a + f * b
abbrev pub merged : ℚ → ℚ → ℚ → ℚ → Bool → ℚ
merged a f b p at_pivot = cond at_pivot p (a +ℚ f *ℚ b)

-- the first n rows but r are combined with the row b
abbrev pub CombinesRows : {F : Type 0} → (F → ℚ) → ℕ → ℕ → ℕ → ℕ → List (Entry F) → List (SparseRow F) → List (SparseRow F) → Type 0
CombinesRows m n r width c b old new = (i : ℕ) → i < n → i ≢ r → Keeps m (combined_row (numbers m old i) (value_at m b) c) width
    (row_at new i)

-- the operations of combining the first n rows but r with the row b
unfoldable pub rows_operations : (ℕ → ℕ → ℚ) → (ℕ → ℚ) → ℕ → ℕ → ℕ → ℕ → List Operation
rows_operations a b n r width c = joined n (λ i. cond (eqb i r) [] (combination_row_operations width (a i) b c))

-- the n rows after the pivot at the row r and the column c
pub record Exchanges {F : Type 0} (m : F → ℚ) (n r width c : ℕ) (old new : List (SparseRow F)) : Type 0 where
  pub pivot_row : Keeps m (divided_row (numbers m old r) c) width (row_at new r)
  pub others : (i : ℕ) → i < n → i ≢ r → Keeps m (combined_row (numbers m old i) (divided_row (numbers m old r) c) c) width (row_at new i)

-- the operations of that pivot
unfoldable pub exchange_operations : (ℕ → ℕ → ℚ) → ℕ → ℕ → ℕ → ℕ → List Operation
exchange_operations a n r width c = division_row_operations width (a r) c ++ rows_operations a (divided_row (a r) c) n r width c
