-- The table of a dictionary that keeps its entries in one list, row after row, the goals' rows last and the constant last in each row.
use Rattle.std.specs.Prelude.{ℕ, suc, ◌+◌, ◌-◌, ◌*◌, cond, ltb, List, length, map, get_or}
use Rattle.base_numbers.specs.Rational.{ℚ, zero_ℚ}
use Rattle.lp_theory.specs.Table.{Table}

-- the names of goals follow those of the variables: the problem's goal is the first of them
abbrev pub goal_name : ℕ → ℕ → ℕ → ℕ → ℕ
goal_name rows goals width i = (rows + width + (2 - goals)) + (rows + goals - suc i)

-- the entry at a place of the list
abbrev pub cell : {F : Type 0} → (F → ℚ) → List F → ℕ → ℚ
cell m xs k = get_or (map m xs) k zero_ℚ

-- the row of entries from a place on
abbrev pub row_from : {F : Type 0} → (F → ℚ) → List F → ℕ → ℕ → ℚ
row_from m xs start k = cell m xs (start + k)

-- the table of two lists of names, a number of goals and a list of entries
abbrev pub cells_table : {F : Type 0} → (F → ℚ) → List ℕ → List ℕ → ℕ → List F → Table
cells_table m bs ns goals xs = record {
  rows = length bs;
  goals = goals;
  width = length ns;
  row_name = λ i. cond (ltb i (length bs)) (get_or bs i 0) (goal_name (length bs) goals (length ns) i);
  col_name = λ k. get_or ns k 0;
  entry = λ i. row_from m xs (i * suc (length ns));
}
