-- A problem of the code as a linear program over exact numbers, and the first dictionary's table.
use Rattle.std.specs.Prelude.{◌≡◌, ℕ, ◌+◌, ◌<◌, length, map, All, Option, Some, None}
use Rattle.base_numbers.specs.Rational.{ℚ}
use Rattle.lp_theory.specs.Problem as lp
use Rattle.lp_theory.specs.Listed.{list_problem}
use Rattle.lp_theory.specs.Search.{Search, none, found}
use Rattle.lp_theory.specs.Simplex.{lowest}
use Rattle.lp_theory.specs.Table.{Table}
use Rattle.lp_theory.specs.FirstTable.{first_table, plain_table}
use Rattle.lp_dictionary.specs.declared.problem.Problem.{Problem}

-- the linear program, where m gives the number that a value stands for
abbrev pub exact : {F : Type 0} → (F → ℚ) → Problem F → lp.Problem
exact m p = list_problem (length p.goal) (map (λ r. r.coeffs) p.rows.items) (map (λ r. m r.side) p.rows.items) p.goal

-- each row has one coefficient per entry of the goal, and rows and columns together are few enough for names of 32 bits
pub record IsShaped {F : Type 0} (p : Problem F) : Type 0 where
  pub rows : All (λ r. length r.coeffs ≡ length p.goal) p.rows.items
  pub few : length p.rows.items + length p.goal < 4294967295

-- the first table, from the row of the least side where that is below 0
abbrev pub start_from : lp.Problem → Search → Table
start_from P none = plain_table P
start_from P (found r) = first_table P

-- the first dictionary: with the auxiliary variable and two goals exactly where some side is below 0
unfoldable pub start_table : lp.Problem → Table
start_table P = start_from P (lowest P)

-- a row as a search of the theory finds it
abbrev pub search_of : Option ℕ → Search
search_of None = none
search_of (Some r) = found r
