-- Which verdict is given at a place, and which fault: by the linear problem of each case.
use Rattle.std.specs.Prelude.{◌≡◌, ◌↔◌, ℕ, List, [], length, get_or}
use Rattle.base_numbers.specs.Rational.{ℚ, zero_ℚ}
use Rattle.lang_tree.specs.declared.form.Form.{Form}
use Rattle.flow_edges.specs.declared.edge.Action.{Action}
use Rattle.flow_systems.specs.States.{RationalState}
use Rattle.flow_systems.specs.Equations.{Equations, Vector}
use Rattle.flow_systems.specs.declared.spot.PartFault.{PartFault}
use Rattle.flow_systems.specs.declared.spot.PartFault.TheVariants.{Wide as WidePart}
use Rattle.theory_validity.specs.Words.{width, end_of}
use Rattle.lp_theory.specs.Problem.{Problem, Outcome, best, unbounded, empty}
use Rattle.lp_theory.specs.Simplex.{lp}
use Rattle.lp_theory.specs.Free.{unsplit}
use Rattle.lp_simplex.specs.Operations.{capped}
use Rattle.theory_transformers.specs.Limits.{tabulate}
use Rattle.solve_transformer.specs.Places.{placed_edge, NoneWideAt, IsPlaceFault}
use Rattle.theory_transformers.specs.EdgeProblems.{whole_problem}
use Rattle.ask_verdicts.specs.Firsts.{IsFirst, FitsUpTo, IsFirstRefused}
use Rattle.ask_verdicts.specs.Breaking.{Breaks, NoneBreaks, NoneOpen}
use Rattle.ask_verdicts.specs.declared.outcome.Verdict.{Verdict}
use Rattle.ask_verdicts.specs.declared.outcome.Verdict.TheVariants.{Proved, Open}
use Rattle.ask_verdicts.specs.declared.outcome.VerdictFault.{VerdictFault}
use Rattle.ask_verdicts.specs.declared.outcome.VerdictFault.TheVariants.{Wide, NoMemory}

-- ---- the linear problems
-- the problem of a case over split columns: the rows with a finite bound at the point, then the guards before the place, then those of the
-- case, and 0 as goal
abbrev pub case_problem : Equations → Vector → ℕ → List Action → List Form → Problem
case_problem system z p before case = whole_problem system z (placed_edge p before case) []

-- the point of the last dictionary
abbrev pub last_point : Outcome → ℕ → ℚ
last_point (best x v y) = x
last_point (unbounded x d) = x
last_point (empty y) = λ j. zero_ℚ

-- the state that it gives: the start values and free values, each its positive column minus its negative one, lead along the actions to it
abbrev pub state_of : Equations → List Action → Outcome → RationalState
state_of system before outcome = end_of system.variables before (tabulate (width system.variables before) (unsplit (last_point outcome)))

-- a state that breaks a case is the one that the problem's last dictionary gives
pub record IsBreaking (system : Equations) (z : Vector) (p : ℕ) (before : List Action) (case : List Form) (x : RationalState) : Type 0 where
  pub breaks : Breaks system z p before case x
  pub reads : x ≡ state_of system before (lp (case_problem system z p before case))

-- no operation for a case is wide; where a bound at the point is -inf there is no problem
abbrev pub FitsFor : Equations → Vector → ℕ → List Action → List Form → Type 0
FitsFor system z p before case = NoneWideAt system z (placed_edge p before case)

-- the fault carries the first wide operation for a case, with its part
abbrev pub IsFaultFor : Equations → Vector → ℕ → List Action → List Form → PartFault → Type 0
IsFaultFor system z p before case fault = IsPlaceFault system z (placed_edge p before case) fault

-- ---- verdicts
-- the state is that of the first case which a state breaks
abbrev pub IsOpen : Equations → Vector → ℕ → List Action → List (List Form) → RationalState → Type 0
IsOpen system z p before cases x =
    IsFirst (λ k. NoneBreaks system z p before (get_or cases k [])) (λ k. IsBreaking system z p before (get_or cases k [])) (length cases) x

-- an open verdict has such a state
abbrev pub SaysOpen : Equations → Vector → ℕ → List Action → List (List Form) → Verdict → Type 0
SaysOpen system z p before cases Proved = Unit {0}
SaysOpen system z p before cases (Open state) = IsOpen system z p before cases state

-- the verdict at a place: proved exactly where no state breaks a case, and else with the state of the first case which one breaks
pub record IsVerdict (system : Equations) (z : Vector) (p : ℕ) (before : List Action) (cases : List (List Form)) (verdict : Verdict) :
    Type 0 where
  pub proved : (verdict ≡ Proved) ↔ NoneOpen system z p before cases (length cases)
  pub state : SaysOpen system z p before cases verdict

-- no operation is wide up to the end of the first problem that isn't empty
abbrev pub AllFit : Equations → Vector → ℕ → List Action → List (List Form) → Type 0
AllFit system z p before cases =
    FitsUpTo (λ k. NoneBreaks system z p before (get_or cases k [])) (λ k. FitsFor system z p before (get_or cases k [])) (length cases)

-- a fault names the first wide operation with its case, before which no case is open; want of memory may come at any time
abbrev pub IsFirstFault : Equations → Vector → ℕ → List Action → List (List Form) → VerdictFault → Type 0
IsFirstFault system z p before cases (Wide case part wide) =
    IsFirstRefused (λ k. NoneBreaks system z p before (get_or cases k [])) (λ k. FitsFor system z p before (get_or cases k []))
    (λ k fault. (case ≡ capped k) × IsFaultFor system z p before (get_or cases k []) fault) (length cases) (WidePart part wide)
IsFirstFault system z p before cases NoMemory = Unit {0}
