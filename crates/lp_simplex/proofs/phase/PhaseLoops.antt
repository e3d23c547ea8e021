-- Where the loop of a phase stands.
use Rattle.std.proofs.Common.{◌≡◌, ℕ, ◌+◌, ◌<◌, ◌≤◌, Bool, true, ℤ, None}
use Rattle.lp_theory.specs.Problem as lp
use Rattle.lp_theory.specs.Simplex.{names}
use Rattle.lp_theory.specs.Table.{Table, Agree}
use Rattle.lp_theory.specs.Run.{phase_dict, phase_table, phase_of}
use Rattle.lp_dictionary.specs.Build.{width_of}
use Rattle.lp_simplex.specs.Operations.{first_refused, phase_operations, capped}

-- after j pivots of the phase, of which no operation was wide, in which the auxiliary variable has not left
pub record Stands (limit : ℤ) (P : lp.Problem) (auxiliary : Bool) (T : Table) (pivots : ℕ) : Type 0 where
  -- the number of pivots made
  pub j : ℕ
  -- it is at most the number of the phase's pivots
  pub below : j ≤ (phase_of P auxiliary).last
  -- the table is that of the phase after these pivots
  pub table : Agree (phase_table (names P) (phase_of P auxiliary) j) T
  -- the number of all pivots so far, as faults give it
  pub count : pivots ≡ capped ((phase_of P auxiliary).made + j)
  -- none of the operations so far is wide
  pub fits : first_refused limit (phase_operations (names P) (phase_of P auxiliary) j) ≡ None
  -- the auxiliary variable has not left
  pub basic : (phase_dict (names P) (phase_of P auxiliary) j).basic 0 ≡ true
  -- the table has a row for each row of the problem
  pub rows : T.rows ≡ P.rows
  -- there is a goal's row
  pub goals : 0 < T.goals
  -- the table has a column for each column of the problem, and one for the auxiliary variable in the first phase
  pub width : T.width ≡ width_of auxiliary P.cols
  -- the first of the goals' rows is that of the followed goal
  pub goal : T.row_name T.rows ≡ (phase_of P auxiliary).goal
