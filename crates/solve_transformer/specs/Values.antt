-- What the transformer of an edge and a row answers, and the operations by which it is read from the outcome of its problem.
use Rattle.std.specs.Prelude.{◌≡◌, ℕ, suc, ◌+◌, ◌<◌, ◌++◌, ℤ, List, [], ◌∷◌, false, length, map, Some, None}
use Rattle.std.specs.List.{range_with_len}
use Rattle.base_numbers.specs.Rational.{ℚ, ◌+ℚ◌}
use Rattle.base_numbers.specs.Extended.{Ext, neg_inf, ◌<ᴱ◌}
use Rattle.flow_edges.specs.declared.edge.Edge.{Edge}
use Rattle.base_fractions.specs.Fits.{long_limit}
use Rattle.base_fractions.specs.declared.wide.Op.TheVariants.{Add, Sub}
use Rattle.base_fractions.specs.Operation.{Operation, first_wide, operation_of}
use Rattle.flow_systems.specs.Equations.{Equations, Vector}
use Rattle.flow_systems.specs.declared.trace.Trace.{Trace}
use Rattle.flow_systems.specs.declared.spot.Part.{Part}
use Rattle.flow_systems.specs.declared.spot.Part.TheVariants.{Side, Pivot, Reading}
use Rattle.flow_systems.specs.declared.spot.PartFault.{PartFault}
use Rattle.flow_systems.specs.declared.spot.PartFault.TheVariants.{Wide, NoMemory}
use Rattle.theory_validity.specs.Words.{width, guard_forms, end_form}
use Rattle.lp_theory.specs.Problem.{Problem, Outcome, best, unbounded, empty}
use Rattle.lp_theory.specs.Simplex.{lp}
use Rattle.lp_theory.specs.Free.{unsplit}
use Rattle.lp_simplex.specs.Operations.{first_refused, run_operations, capped}
use Rattle.theory_transformers.specs.Limits.{tabulate}
use Rattle.theory_transformers.specs.EdgeProblems.{lost, whole_problem}
use Rattle.theory_transformers.specs.Spread.{spread, skip}
use Rattle.solve_composition.specs.declared.value.Value.{Value}
use Rattle.solve_composition.specs.declared.value.Value.TheVariants.{Unreached, Empty, Best, Unbounded}

-- the lowest row whose bound is -inf
pub record IsLowestLost (bounds : ℕ → Ext) (rows : ℕ) (r : ℕ) : Type 0 where
  pub within : r < rows
  pub is_lost : bounds r ≡ neg_inf
  pub lowest : (k : ℕ) → k < r → neg_inf <ᴱ bounds k

-- n start values and then free values are the first w entries of x
pub record IsTraceOf (n w : ℕ) (x : ℕ → ℚ) (trace : Trace) : Type 0 where
  pub size : length trace.start ≡ n
  pub word : trace.start ++ trace.free ≡ tabulate w x

-- multipliers of the template rows, 0 where the bound isn't finite, and of the guards
pub record AreMultipliers (bounds : ℕ → Ext) (template : List (List ℤ)) (count : ℕ) (y : ℕ → ℚ) (rows guards : List ℚ) : Type 0 where
  pub of_rows : rows ≡ spread bounds template y
  pub of_guards : guards ≡ tabulate count (skip bounds template y)

-- what an outcome over split columns says: the value with the end value's constant c, and the trace whose entries are each positive
-- column minus the negative one
abbrev pub ReadsOutcome : ℕ → ℕ → ℚ → (ℕ → Ext) → List (List ℤ) → ℕ → Outcome → Value → Type 0
ReadsOutcome n w c bounds template count (best x v y) (Unreached r) = ⊥
ReadsOutcome n w c bounds template count (best x v y) (Empty rows guards) = ⊥
ReadsOutcome n w c bounds template count (best x v y) (Best value trace rows guards) = (value ≡ v +ℚ c) × IsTraceOf n w (unsplit x) trace
    × AreMultipliers bounds template count y rows guards
ReadsOutcome n w c bounds template count (best x v y) (Unbounded trace direction) = ⊥
ReadsOutcome n w c bounds template count (unbounded x d) (Unreached r) = ⊥
ReadsOutcome n w c bounds template count (unbounded x d) (Empty rows guards) = ⊥
ReadsOutcome n w c bounds template count (unbounded x d) (Best value trace rows guards) = ⊥
ReadsOutcome n w c bounds template count (unbounded x d) (Unbounded trace direction) =
    IsTraceOf n w (unsplit x) trace × IsTraceOf n w (unsplit d) direction
ReadsOutcome n w c bounds template count (empty y) (Unreached r) = ⊥
ReadsOutcome n w c bounds template count (empty y) (Empty rows guards) = AreMultipliers bounds template count y rows guards
ReadsOutcome n w c bounds template count (empty y) (Best value trace rows guards) = ⊥
ReadsOutcome n w c bounds template count (empty y) (Unbounded trace direction) = ⊥

-- the differences that are the first w entries of a trace
abbrev pub entry_operations : ℕ → (ℕ → ℚ) → List Operation
entry_operations w x = map (λ j. record { op = Sub; left = x (j + j); right = x (suc (j + j)) }) (range_with_len 0 w)

-- the operations of reading: the value first, and then the entries of the traces
abbrev pub reading_operations : ℕ → ℚ → Outcome → List Operation
reading_operations w c (best x v y) = record { op = Add; left = v; right = c } ∷ entry_operations w x
reading_operations w c (unbounded x d) = entry_operations w x ++ entry_operations w d
reading_operations w c (empty y) = []

-- the last dictionary of the problem, read as a value
abbrev pub ReadsProblem : Equations → Vector → Edge → List ℤ → Value → Type 0
ReadsProblem system z edge row value =
    (lost (z edge.from) system.template ≡ false)
    × ReadsOutcome system.variables (width system.variables edge.actions) (end_form system.variables edge.actions row).constant
    (z edge.from) system.template (length (guard_forms system.variables edge.actions)) (lp (whole_problem system z edge row)) value

-- the lowest row at -inf where there is one, and else what the last dictionary says
abbrev pub IsValue : Equations → Vector → Edge → List ℤ → Value → Type 0
IsValue system z edge row (Unreached r) = IsLowestLost (z edge.from) (length system.template) r
IsValue system z edge row (Empty rows guards) = ReadsProblem system z edge row (Empty rows guards)
IsValue system z edge row (Best value trace rows guards) = ReadsProblem system z edge row (Best value trace rows guards)
IsValue system z edge row (Unbounded trace direction) = ReadsProblem system z edge row (Unbounded trace direction)

-- the operations of reading the problem's outcome
abbrev pub problem_reading : Equations → Vector → Edge → List ℤ → List Operation
problem_reading system z edge row = reading_operations (width system.variables edge.actions)
    (end_form system.variables edge.actions row).constant
    (lp (whole_problem system z edge row))

-- no pivot and no reading is wide; without a problem there is none
abbrev pub NoneWide : Equations → Vector → Edge → List ℤ → Type 0
NoneWide system z edge row =
    lost (z edge.from) system.template ≡ false → (first_refused long_limit (run_operations (whole_problem system z edge row)) ≡ None)
    × (first_wide long_limit (problem_reading system z edge row) ≡ None)

-- the first wide operation of some numbered pivots, and of reading where no pivot is wide; the sides have no operation
abbrev pub IsWideIn : Problem → List Operation → Part → Operation → Type 0
IsWideIn P reading Side o = ⊥
IsWideIn P reading (Pivot number) o = (j : ℕ) × (number ≡ capped j) × (first_refused long_limit (run_operations P)
    ≡ Some (record { pivot = j; operation = o }))
IsWideIn P reading Reading o = (first_refused long_limit (run_operations P) ≡ None) × (first_wide long_limit reading ≡ Some o)

-- the first wide operation of the problem, which there is
abbrev pub IsOperatorFault : Equations → Vector → Edge → List ℤ → PartFault → Type 0
IsOperatorFault system z edge row (Wide part wide) = (lost (z edge.from) system.template ≡ false)
    × IsWideIn (whole_problem system z edge row) (problem_reading system z edge row) part (operation_of (λ q. q) wide)
IsOperatorFault system z edge row NoMemory = Unit {0}
