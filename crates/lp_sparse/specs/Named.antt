-- Tables of two lists of names and the entries of each row.
use Rattle.std.specs.Prelude.{ℕ, cond, ltb, List, length, get_or}
use Rattle.base_numbers.specs.Rational.{ℚ}
use Rattle.lp_theory.specs.Table.{Table}
use Rattle.lp_dictionary.specs.Cells.{goal_name}

-- the table of the names of rows and columns, a number of goals and the entries
abbrev pub named_table : List ℕ → List ℕ → ℕ → (ℕ → ℕ → ℚ) → Table
named_table bs ns goals a = record {
  rows = length bs;
  goals = goals;
  width = length ns;
  row_name = λ i. cond (ltb i (length bs)) (get_or bs i 0) (goal_name (length bs) goals (length ns) i);
  col_name = λ k. get_or ns k 0;
  entry = a;
}
