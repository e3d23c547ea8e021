-- The array of a code's dictionary: rows and columns at positions, with names, and the constants as the last column.
-- Rows below `rows` belong to basic variables, the `goals` rows after them to goals; column `width` has the constants.
use Rattle.std.specs.Prelude.{◌≡◌, ℕ, suc, ◌<◌, ◌≤◌, ◌+◌, ◌*◌, ◌⊎◌, true, false, cond, eqb, ltb, List, get_or}
use Rattle.base_numbers.specs.Rational.{ℚ, zero_ℚ, one_ℚ, ◌+ℚ◌, ◌*ℚ◌, neg_ℚ, ◌/ℚ◌}
use Rattle.lp_theory.specs.Dictionary.{Dict}

-- a table
pub record Table : Type 0 where
  pub rows : ℕ
  pub goals : ℕ
  pub width : ℕ
  pub row_name : ℕ → ℕ
  pub col_name : ℕ → ℕ
  pub entry : ℕ → ℕ → ℚ

-- the table of one flat list of entries, row after row, and two lists of names
abbrev pub flat_table : ℕ → ℕ → ℕ → List ℕ → List ℕ → List ℚ → Table
flat_table rows goals width bs ns cells = record {
  rows = rows;
  goals = goals;
  width = width;
  row_name = λ i. get_or bs i 0;
  col_name = λ k. get_or ns k 0;
  entry = λ i k. get_or cells (i * suc width + k) zero_ℚ;
}

-- the new entries of the pivot's row: formula 1 in the pivot's column, formula 2 elsewhere
unfoldable pub pivot_row_entry : Table → ℕ → ℕ → ℕ → ℚ
pivot_row_entry T r c k = cond (eqb k c) (one_ℚ /ℚ T.entry r c) (neg_ℚ (T.entry r k /ℚ T.entry r c))

-- the new entries of another row: formula 3 in the pivot's column, formula 4 elsewhere
unfoldable pub pivot_other_entry : Table → ℕ → ℕ → ℕ → ℕ → ℚ
pivot_other_entry T r c i k =
    cond (eqb k c) (T.entry i c *ℚ pivot_row_entry T r c c) (T.entry i k +ℚ T.entry i c *ℚ pivot_row_entry T r c k)

-- the pivot at the row r and the column c
unfoldable pub pivot_table : Table → ℕ → ℕ → Table
pivot_table T r c = record {
  rows = T.rows;
  goals = T.goals;
  width = T.width;
  row_name = λ i. cond (eqb i r) (T.col_name c) (T.row_name i);
  col_name = λ k. cond (eqb k c) (T.row_name r) (T.col_name k);
  entry = λ i k. cond (eqb i r) (pivot_row_entry T r c k) (pivot_other_entry T r c i k);
}

-- the table has each row and each column of the dictionary that is not 0
pub record Shows (n : ℕ) (T : Table) (D : Dict) : Type 0 where
  pub row_below : (i : ℕ) → i < T.rows → T.row_name i < n
  pub row_basic : (i : ℕ) → i < T.rows + T.goals → D.basic (T.row_name i) ≡ true
  pub rows_apart : (i j : ℕ) → i < T.rows + T.goals → j < T.rows + T.goals → T.row_name i ≡ T.row_name j → i ≡ j
  pub col_free : (k : ℕ) → k < T.width → D.basic (T.col_name k) ≡ false
  pub cols_apart : (k l : ℕ) → k < T.width → l < T.width → T.col_name k ≡ T.col_name l → k ≡ l
  pub entries : (i k : ℕ) → i < T.rows + T.goals → k < T.width → T.entry i k ≡ D.coef (T.row_name i) (T.col_name k)
  pub constants : (i : ℕ) → i < T.rows + T.goals → T.entry i T.width ≡ D.const (T.row_name i)
  pub all_cols : (q : ℕ) → q < n → D.basic q ≡ false → (k : ℕ) × (k < T.width) × (T.col_name k ≡ q)
  pub all_rows : (q : ℕ) → q < n → D.basic q ≡ true → ((i : ℕ) × (i < T.rows) × (T.row_name i ≡ q)) ⊎ ((k : ℕ) → D.coef q k ≡ zero_ℚ)

-- the k-th position where the position z is left out
abbrev pub skip : ℕ → ℕ → ℕ
skip z k = cond (ltb k z) k (suc k)

-- the column z and the first goal dropped; the other columns keep their order
unfoldable pub drop_table : Table → ℕ → ℕ → ℕ → Table
drop_table T goals width z = record {
  rows = T.rows;
  goals = goals;
  width = width;
  row_name = λ i. T.row_name (skip T.rows i);
  col_name = λ k. T.col_name (skip z k);
  entry = λ i k. T.entry (skip T.rows i) (skip z k);
}

-- the two tables are the same within their bounds
pub record Agree (T U : Table) : Type 0 where
  pub rows : U.rows ≡ T.rows
  pub goals : U.goals ≡ T.goals
  pub width : U.width ≡ T.width
  pub row_name : (i : ℕ) → i < T.rows + T.goals → U.row_name i ≡ T.row_name i
  pub col_name : (k : ℕ) → k < T.width → U.col_name k ≡ T.col_name k
  pub entry : (i k : ℕ) → i < T.rows + T.goals → k ≤ T.width → U.entry i k ≡ T.entry i k
