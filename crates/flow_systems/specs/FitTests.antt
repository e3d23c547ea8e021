-- How a state is tested row by row, with the operations that the test makes.
use Rattle.std.specs.Prelude.{◌≡◌, ◌↔◌, ℕ, suc, ℤ, Bool, true, false, cond, List, [], ◌∷◌, ◌++◌, None, Some, Result, MatchResult, IsTrue}
use Rattle.base_numbers.specs.Rational.{ℚ, le_ℚ}
use Rattle.base_numbers.specs.Extended.{Ext, neg_inf, fin, pos_inf}
use Rattle.base_fractions.specs.declared.wide.Wide.{Wide}
use Rattle.base_fractions.specs.Fits.{long_limit}
use Rattle.base_fractions.specs.Operation.{Operation, first_wide, operation_of}
use Rattle.flow_systems.specs.States.{RationalState, dotℚ}
use Rattle.flow_systems.specs.Sums.{row_operations}

-- a number is at most a bound
abbrev pub is_at_most : ℚ → Ext → Bool
is_at_most q neg_inf = false
is_at_most q (fin b) = le_ℚ q b
is_at_most q pos_inf = true

-- the test of a row: only a finite bound asks for its value
abbrev pub row_test : List ℤ → RationalState → Ext → List Operation
row_test row x neg_inf = []
row_test row x (fin b) = row_operations row x
row_test row x pos_inf = []

-- the tests of rows in order, the first having the number r, up to the first row that fails
abbrev pub fit_operations : List (List ℤ) → (ℕ → Ext) → ℕ → RationalState → List Operation
fit_operations [] bounds r x = []
fit_operations (row ∷ rows) bounds r x = row_test row x (bounds r) ++ cond (is_at_most (dotℚ row x) (bounds r))
    (fit_operations rows bounds (suc r) x) []

-- the test's answer says exactly whether P holds where none of the operations is wide, and carries the first that is where one is
abbrev pub TestAnswers : Type 0 → List Operation → Result Bool (Wide ℚ) → Type 0
TestAnswers P operations result =
    MatchResult result (λ b. (IsTrue b ↔ P) × (first_wide long_limit operations ≡ None))
    (λ w. first_wide long_limit operations ≡ Some (operation_of (λ q. q) w))
