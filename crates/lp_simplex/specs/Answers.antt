-- What the phases of the method leave.
use Rattle.std.specs.Prelude.{◌≡◌, ℕ, ◌+◌, ◌<◌, ℤ, Bool, true, false, List, Some, None}
use Rattle.base_numbers.specs.Rational.{ℚ, one_ℚ, neg_ℚ}
use Rattle.lp_theory.specs.Problem as lp
use Rattle.lp_theory.specs.Bland.{optimal, ray, choose}
use Rattle.lp_theory.specs.Simplex.{names, main_row, outcome_at}
use Rattle.lp_theory.specs.Table.{Table, Agree}
use Rattle.lp_theory.specs.HasRows.{HasRows}
use Rattle.lp_theory.specs.Run.{Phase, phase_dict, phase_table, IsPhase, main_phase, phase_of}
use Rattle.lp_dictionary.specs.Build.{width_of}
use Rattle.base_fractions.specs.Operation.{Operation, first_wide, operation_of}
use Rattle.lp_simplex.specs.declared.outcome.SolveFault.{SolveFault}
use Rattle.lp_simplex.specs.declared.outcome.SolveFault.TheVariants.{Wide, NoMemory}
use Rattle.lp_simplex.specs.declared.outcome.Outcome.{Outcome}
use Rattle.lp_simplex.specs.declared.outcome.Outcome.TheVariants.{Best, Unbounded, Empty}
use Rattle.lp_simplex.specs.declared.phase.End.{End}
use Rattle.lp_simplex.specs.declared.phase.End.TheVariants.{AtBest, AtRay, Left}
use Rattle.lp_simplex.specs.Operations.{Numbered, first_refused, whole_phase, capped}
use Rattle.lp_simplex.specs.Placed.{IsPlaced, Places}

-- the fault carries the first wide operation of the list with the number of its pivot, if it is not want of memory
abbrev pub RefusesRun : {F : Type 0} → (F → ℚ) → ℤ → List Numbered → SolveFault F → Type 0
RefusesRun m limit os (Wide pivot wide) = (j : ℕ) × (pivot ≡ capped j)
    × (first_refused limit os ≡ Some (record { pivot = j; operation = operation_of m wide }))
RefusesRun m limit os NoMemory = Unit {0}

-- the table stands at the beginning of a phase
pub record BeginsPhase (P : lp.Problem) (auxiliary : Bool) (made : ℕ) (T : Table) : Type 0 where
  pub phase : IsPhase (names P) (phase_of P auxiliary)
  pub table : Agree (phase_table (names P) (phase_of P auxiliary) 0) T
  pub count : made ≡ capped (phase_of P auxiliary).made
  pub rows : T.rows ≡ P.rows
  pub goals : 0 < T.goals
  pub width : T.width ≡ width_of auxiliary P.cols
  pub goal : T.row_name T.rows ≡ (phase_of P auxiliary).goal
  pub has : HasRows (names P) (phase_of P auxiliary).table (phase_of P auxiliary).start
  pub stays : auxiliary ≡ false → (phase_dict (names P) (phase_of P auxiliary) (phase_of P auxiliary).last).basic 0 ≡ true

-- why a phase ended: the rule stops with no entering column, or with no leaving row, or the auxiliary variable has left
abbrev pub EndOf : ℕ → Phase → Table → End → Type 0
EndOf n ph T AtBest = (choose ph.goal n (phase_dict n ph ph.last) ≡ optimal) × ((phase_dict n ph ph.last).basic 0 ≡ true)
EndOf n ph T (AtRay c) = (c < T.width) × (choose ph.goal n (phase_dict n ph ph.last) ≡ ray (T.col_name c))
    × ((phase_dict n ph ph.last).basic 0 ≡ true)
EndOf n ph T Left = (phase_dict n ph ph.last).basic 0 ≡ false

-- the table stands at the end of a phase
pub record EndsPhase (limit : ℤ) (P : lp.Problem) (auxiliary : Bool) (T : Table) (end : End) (pivots : ℕ) : Type 0 where
  pub table : Agree (phase_table (names P) (phase_of P auxiliary) (phase_of P auxiliary).last) T
  pub count : pivots ≡ capped ((phase_of P auxiliary).made + (phase_of P auxiliary).last)
  pub fits : first_refused limit (whole_phase P (phase_of P auxiliary)) ≡ None
  pub rows : T.rows ≡ P.rows
  pub goals : 0 < T.goals
  pub width : T.width ≡ width_of auxiliary P.cols
  pub goal : T.row_name T.rows ≡ (phase_of P auxiliary).goal
  pub why : EndOf (names P) (phase_of P auxiliary) T end

-- the fault of the special first pivot
abbrev pub EntersRefused : {F : Type 0} → (F → ℚ) → ℤ → List Operation → SolveFault F → Type 0
EntersRefused m limit os (Wide pivot wide) = (pivot ≡ 1) × (first_wide limit os ≡ Some (operation_of m wide))
EntersRefused m limit os NoMemory = Unit {0}

-- the values in the column c, with 1 for the column's own name
pub record IsDirection {F : Type 0} (m : F → ℚ) (T : Table) (rows cols c : ℕ) (xs : List F) : Type 0 where
  pub before : List F
  pub placed : IsPlaced m T.row_name (λ i. T.entry i c) rows 0 cols before
  pub entering : Places m (T.col_name c) 0 one_ℚ before xs

-- the best outcome that is read from a table
abbrev pub ReadsBest : {F : Type 0} → (F → ℚ) → Table → ℕ → ℕ → Outcome F → Type 0
ReadsBest m T rows cols (Best point value multipliers) =
    IsPlaced m T.row_name (λ i. T.entry i T.width) rows 0 cols point.items × (m value ≡ T.entry rows T.width)
    × IsPlaced m T.col_name (λ k. neg_ℚ (T.entry rows k)) T.width cols rows multipliers.items
ReadsBest m T rows cols (Unbounded point rise) = ⊥
ReadsBest m T rows cols (Empty multipliers) = ⊥

-- the outcome without bound that is read from a table in the column c
abbrev pub ReadsRay : {F : Type 0} → (F → ℚ) → Table → ℕ → ℕ → ℕ → Outcome F → Type 0
ReadsRay m T rows cols c (Best point value multipliers) = ⊥
ReadsRay m T rows cols c (Unbounded point rise) = IsPlaced m T.row_name (λ i. T.entry i T.width) rows 0 cols point.items
    × IsDirection m T rows cols c rise.items
ReadsRay m T rows cols c (Empty multipliers) = ⊥

-- the outcome of the second phase
unfoldable pub main_outcome : lp.Problem → lp.Outcome
main_outcome P = outcome_at P (phase_dict (names P) (main_phase P) (main_phase P).last)
    (choose (main_row P) (names P) (phase_dict (names P) (main_phase P) (main_phase P).last))
