-- The operations of a pivot in the order in which they are made: the pivot's row by rising column, the constant last, and then
-- each other row, the goals last, formula 3 before formula 4 and this by rising column.
use Rattle.std.specs.Prelude.{ℕ, suc, ◌+◌, cond, eqb, List, [], ◌++◌}
use Rattle.base_numbers.specs.Rational.{ℚ}
use Rattle.lp_theory.specs.Table.{Table}
use Rattle.base_fractions.specs.Operation.{Operation}
use Rattle.lp_dictionary.specs.Listed.{joined}
use Rattle.lp_dictionary.specs.Formulas.{divided_row, divided_operations, product_operations, added_operations}

-- the operations of the pivot's row a over n columns
unfoldable pub division_row_operations : ℕ → (ℕ → ℚ) → ℕ → List Operation
division_row_operations n a c = joined n (λ k. divided_operations (a k) (a c) (eqb k c))

-- the operations of formula 4 in a row a over n columns, with the factor f and the pivot's row b after the pivot
unfoldable pub added_row_operations : ℕ → (ℕ → ℚ) → ℚ → (ℕ → ℚ) → ℕ → List Operation
added_row_operations n a f b c = joined n (λ k. added_operations (a k) f (b k) (eqb k c))

-- the operations of another row a over n columns, where b is the pivot's row after the pivot: formula 3 before formula 4
unfoldable pub combination_row_operations : ℕ → (ℕ → ℚ) → (ℕ → ℚ) → ℕ → List Operation
combination_row_operations n a b c = product_operations (a c) (b c) ++ added_row_operations n a (a c) b c

-- the operations of row i in the pivot at row r and column c
abbrev pub other_row_operations : Table → ℕ → ℕ → ℕ → List Operation
other_row_operations T r c i = cond (eqb i r) [] (combination_row_operations (suc T.width) (T.entry i) (divided_row (T.entry r) c) c)

-- the operations of the pivot at row r and column c
unfoldable pub pivot_operations : Table → ℕ → ℕ → List Operation
pivot_operations T r c = division_row_operations (suc T.width) (T.entry r) c ++ joined (T.rows + T.goals) (other_row_operations T r c)
