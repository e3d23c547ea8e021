-- Problems from lists of coefficients.
use Rattle.std.specs.Prelude.{ℕ, List, [], length, get_or}
use Rattle.base_numbers.specs.Rational.{ℚ, zero_ℚ}
use Rattle.lp_theory.specs.Problem.{Problem}

-- a list as a function, 0 past its end
abbrev pub at : List ℚ → ℕ → ℚ
at u k = get_or u k zero_ℚ

-- the problem over W columns of a list of rows, their sides and a goal
abbrev pub list_problem : ℕ → List (List ℚ) → List ℚ → List ℚ → Problem
list_problem W A b c = record { cols = W; rows = length b; coef = λ r. at (get_or A r []); side = at b; goal = at c }
