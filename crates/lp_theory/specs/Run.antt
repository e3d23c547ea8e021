-- The run of Bland's rule on tables: where a dictionary's rows and columns stand after each pivot.
use Rattle.std.specs.Prelude.{◌≡◌, ℕ, zero, suc, ◌<◌, ◌-◌, ◌⊎◌, Bool, true, false, eqb}
use Rattle.lp_theory.specs.Problem.{Problem}
use Rattle.lp_theory.specs.Dictionary.{Dict, drop_zero}
use Rattle.lp_theory.specs.Search.{Search, none, found, first}
use Rattle.lp_theory.specs.Bland.{Choice, optimal, ray, step, choose, after, stops, stop_index, index_of, IsGood}
use Rattle.lp_theory.specs.Simplex.{names, main_row, aux_row, first_dict, entered, lowest, phase_one_index, last_of_one}
use Rattle.lp_theory.specs.Table.{Table, Shows, pivot_table, drop_table}
use Rattle.lp_theory.specs.FirstTable.{first_table, plain_table}

-- the place of the name q among the first n names
unfoldable pub place_of : (ℕ → ℕ) → ℕ → ℕ → ℕ
place_of name n q = index_of (first (λ k. eqb (name k) q) n)

-- the row of a basic name
abbrev pub row_place : Table → ℕ → ℕ
row_place T q = place_of T.row_name T.rows q

-- the column of a name that is not basic
abbrev pub col_place : Table → ℕ → ℕ
col_place T q = place_of T.col_name T.width q

-- the table without the auxiliary variable's column and without the first goal
unfoldable pub leave_table : Table → Table
leave_table T = drop_table T (T.goals - 1) (T.width - 1) (col_place T 0)

-- the table after a choice
abbrev pub step_table : Table → Choice → Table
step_table T optimal = T
step_table T (ray c) = T
step_table T (step c r) = pivot_table T (row_place T r) (col_place T c)

-- the table after j steps of the rule, where T shows D
unfoldable pub tables_after : ℕ → ℕ → Table → Dict → ℕ → Table
tables_after g n T D zero = T
tables_after g n T D (suc j) = step_table (tables_after g n T D j) (choose g n (after g n D j))

-- a phase: the followed goal, the dictionary and the table that it begins with, the pivots made before it, and its own pivots
pub record Phase : Type 0 where
  pub goal : ℕ
  pub start : Dict
  pub table : Table
  pub made : ℕ
  pub last : ℕ

-- the dictionary of a phase after j of its pivots
abbrev pub phase_dict : ℕ → Phase → ℕ → Dict
phase_dict n ph j = after ph.goal n ph.start j

-- the table of a phase after j of its pivots
abbrev pub phase_table : ℕ → Phase → ℕ → Table
phase_table n ph j = tables_after ph.goal n ph.table ph.start j

-- what makes a phase: it begins with a feasible dictionary in a table that shows it, makes its pivots without a stop while the
-- auxiliary variable does not leave, and then the rule stops or that variable has left
pub record IsPhase (n : ℕ) (ph : Phase) : Type 0 where
  pub good : IsGood n ph.start
  pub shows : Shows n ph.table ph.start
  pub begins : ph.start.basic 0 ≡ true
  pub goes_on : (j : ℕ) → j < ph.last → (stops ph.goal n (phase_dict n ph j) ≡ false) × ((phase_dict n ph j).basic 0 ≡ true)
  pub ends : (stops ph.goal n (phase_dict n ph ph.last) ≡ true) ⊎ ((phase_dict n ph ph.last).basic 0 ≡ false)

-- the first phase, where the least side is below 0: its first pivot is made before
abbrev pub aux_phase : Problem → Phase
aux_phase P = record {
  goal = aux_row P;
  start = entered P (index_of (lowest P));
  table = pivot_table (first_table P) (index_of (lowest P)) P.cols;
  made = 1;
  last = phase_one_index P (entered P (index_of (lowest P)));
}

-- the dictionary that the second phase begins with
abbrev pub main_start : Problem → Search → Dict
main_start P none = drop_zero (first_dict P)
main_start P (found r) = drop_zero (last_of_one P (entered P r))

-- its table
abbrev pub main_table : Problem → Search → Table
main_table P none = plain_table P
main_table P (found r) = leave_table (phase_table (names P) (aux_phase P) (aux_phase P).last)

-- the pivots made before it
abbrev pub main_made : Problem → Search → ℕ
main_made P none = 0
main_made P (found r) = suc (phase_one_index P (entered P r))

-- the second phase
abbrev pub main_phase : Problem → Phase
main_phase P = record {
  goal = main_row P;
  start = main_start P (lowest P);
  table = main_table P (lowest P);
  made = main_made P (lowest P);
  last = stop_index (main_row P) (names P) (main_start P (lowest P));
}

-- the first phase or the second
abbrev pub phase_of : Problem → Bool → Phase
phase_of P true = aux_phase P
phase_of P false = main_phase P
