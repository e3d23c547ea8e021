-- The operations of the exact run, each with the number of its pivot, in the order in which they are made.
use Rattle.std.specs.Prelude.{ℕ, suc, ◌+◌, ℤ, Bool, true, false, cond, ltb, List, [], ◌∷◌, ◌++◌, map, Option, find}
use Rattle.base_numbers.specs.Rational.{zero_ℚ, neg_ℚ, lt_ℚ}
use Rattle.base_fractions.specs.declared.wide.Op.TheVariants.{Div}
use Rattle.lp_theory.specs.Problem.{Problem}
use Rattle.lp_theory.specs.Search.{Search, none, found}
use Rattle.lp_theory.specs.Bland.{Choice, optimal, ray, step, choose}
use Rattle.lp_theory.specs.Simplex.{names, lowest}
use Rattle.lp_theory.specs.Table.{Table}
use Rattle.lp_theory.specs.FirstTable.{first_table}
use Rattle.lp_theory.specs.Run.{row_place, col_place, Phase, phase_dict, phase_table, aux_phase, main_phase}
use Rattle.base_fractions.specs.Operation.{Operation, is_wide}
use Rattle.lp_dictionary.specs.Listed.{joined}
use Rattle.lp_dictionary.specs.PivotOperations.{pivot_operations}

-- an operation and the number of the pivot that makes it
pub record Numbered : Type 0 where
  pub pivot : ℕ
  pub operation : Operation

-- the operations of one pivot
abbrev pub numbered : ℕ → List Operation → List Numbered
numbered j os = map (λ o. record { pivot = j; operation = o }) os

-- the first operation of a run that is wide
abbrev pub first_refused : ℤ → List Numbered → Option Numbered
first_refused limit os = find (λ o. is_wide limit o.operation) os

-- the ratio of row i in the column c, if its entry there is negative
abbrev pub ratio_operation : Table → ℕ → ℕ → List Operation
ratio_operation T c i = cond (lt_ℚ (T.entry i c) zero_ℚ) (record { op = Div; left = T.entry i T.width; right = neg_ℚ (T.entry i c) } ∷ [])
    []

-- the ratios, row by row
unfoldable pub ratio_operations : Table → ℕ → List Operation
ratio_operations T c = joined T.rows (ratio_operation T c)

-- the operations of a step of the rule: the ratios, and then the pivot's
abbrev pub step_operations : Table → Choice → List Operation
step_operations T optimal = []
step_operations T (ray c) = []
step_operations T (step c r) = ratio_operations T (col_place T c) ++ pivot_operations T (row_place T r) (col_place T c)

-- the operations of pivot number j of a phase, counted from 0
abbrev pub pivot_of_phase : ℕ → Phase → ℕ → List Numbered
pivot_of_phase n ph j = numbered (suc (ph.made + j)) (step_operations (phase_table n ph j) (choose ph.goal n (phase_dict n ph j)))

-- the operations of the first k pivots of a phase
unfoldable pub phase_operations : ℕ → Phase → ℕ → List Numbered
phase_operations n ph k = joined k (pivot_of_phase n ph)

-- the operations of a whole phase
abbrev pub whole_phase : Problem → Phase → List Numbered
whole_phase P ph = phase_operations (names P) ph ph.last

-- the second phase follows unless the auxiliary variable is still basic
abbrev pub then_main : Problem → Bool → List Numbered
then_main P true = []
then_main P false = whole_phase P (main_phase P)

-- the operations from the row of the least side, if it is below 0
abbrev pub run_from : Problem → Search → List Numbered
run_from P none = whole_phase P (main_phase P)
run_from P (found r) =
    numbered 1 (pivot_operations (first_table P) r P.cols)
    ++ (whole_phase P (aux_phase P) ++ then_main P ((phase_dict (names P) (aux_phase P) (aux_phase P).last).basic 0))

-- the operations of the exact run of a problem
unfoldable pub run_operations : Problem → List Numbered
run_operations P = run_from P (lowest P)

-- a pivot's number as faults give it
abbrev pub capped : ℕ → ℕ
capped j = cond (ltb j 4294967295) j 4294967295
