-- Laws: what a proved check says of runs, what an open one says, and that verdicts and refusals are determined.
use Rattle.std.specs.Prelude.{◌≡◌, ◌≢◌, ℕ, ◌<◌, ℤ, List, Some, false, IsTrue, slice_get, Contains}
use Rattle.lang_tree.specs.declared.check.Check.{Check}
use Rattle.lang_tree.specs.Tree.{Condition, Statements}
use Rattle.lang_tree.specs.Limits.{is_program}
use Rattle.lang_tree.specs.Cases.{cases_of}
use Rattle.lang_tree.specs.Runs.{Configuration, IsRun, CheckIsTrue}
use Rattle.flow_edges.specs.declared.checked.CheckCases.{CheckCases}
use Rattle.flow_edges.specs.declared.edge.Edge.{Edge}
use Rattle.flow_systems.specs.States.{RationalState}
use Rattle.flow_systems.specs.SystemLimits.{is_over}
use Rattle.flow_systems.specs.Equations.{Equations, Vector, PostSolution}
use Rattle.flow_systems.specs.Solutions.{equations_of_program}
use Rattle.flow_systems.specs.SolutionLaws.{IsSame}
use Rattle.ask_verdicts.specs.declared.outcome.Verdict.{Verdict}
use Rattle.ask_verdicts.specs.declared.outcome.Verdict.TheVariants.{Proved, Open}
use Rattle.ask_checks.specs.Places.{BreaksCheck, NoneBreaksCheck}
use Rattle.ask_checks.specs.Verdicts.{AreCheckVerdicts, ChecksFit, IsChecksFault}
use Rattle.ask_checks.specs.declared.outcome.ChecksFault.{ChecksFault}
use Rattle.ask_checks.specs.declared.outcome.ChecksFault.TheVariants.{NoMemory}

-- the check with the cases in which a condition may be false
abbrev pub check_of : Check → Condition → CheckCases
check_of about c = record { check = about; against = cases_of false c }

-- a check that no state breaks at a post-solution of a program's system, whose rows are over its variables, is true in every run of the
-- program
abbrev pub ProvedChecksHold : Type 0
ProvedChecksHold = (variables : ℕ) (body : Statements) (template : List (List ℤ)) (v : Vector) (about : Check) (c : Condition) →
    IsTrue (is_program variables body) → IsTrue (is_over variables template) →
    PostSolution (equations_of_program variables body template) v →
    NoneBreaksCheck (equations_of_program variables body template) v (check_of about c) →
    (run : List Configuration) → IsRun variables body run → CheckIsTrue about c run

-- and so is each check of a list whose verdict at such a vector is that it is proved
abbrev pub ProvedVerdictsHold : Type 0
ProvedVerdictsHold = (variables : ℕ) (body : Statements) (template : List (List ℤ)) (v : Vector) (checks : List CheckCases)
    (verdicts : List Verdict) (k : ℕ) (about : Check) (c : Condition) →
    IsTrue (is_program variables body) → IsTrue (is_over variables template) →
    PostSolution (equations_of_program variables body template) v →
    AreCheckVerdicts (equations_of_program variables body template) v checks verdicts →
    slice_get checks k ≡ Some (check_of about c) → slice_get verdicts k ≡ Some Proved →
    (run : List Configuration) → IsRun variables body run → CheckIsTrue about c run

-- the state of an open check breaks it at one of its places
abbrev pub OpenStatesBreak : Type 0
OpenStatesBreak = (system : Equations) (z : Vector) (checks : List CheckCases) (verdicts : List Verdict) (k : ℕ) (check : CheckCases)
    (x : RationalState) →
    AreCheckVerdicts system z checks verdicts → slice_get checks k ≡ Some check → slice_get verdicts k ≡ Some (Open x) →
    BreaksCheck system z check x

-- each edge goes from a point
abbrev pub EdgesGoFromPoints : Equations → Type 0
EdgesGoFromPoints system = (edge : Edge) → Contains system.edges edge → edge.from < system.points

-- vectors with the same bounds give checks one list of verdicts
abbrev pub VerdictsAreOne : Type 0
VerdictsAreOne = (system : Equations) (z w : Vector) (checks : List CheckCases) (verdicts again : List Verdict) → IsSame system z w →
    EdgesGoFromPoints system → AreCheckVerdicts system z checks verdicts → AreCheckVerdicts system w checks again → verdicts ≡ again

-- a wide operation is named only where there is one
abbrev pub WideChecksDontFit : Type 0
WideChecksDontFit = (system : Equations) (z : Vector) (checks : List CheckCases) (fault : ChecksFault) → fault ≢ NoMemory →
    IsChecksFault system z checks fault → ¬ (ChecksFit system z checks)

-- and it is the only one that is named, by all vectors with the same bounds
abbrev pub RefusalsAreOne : Type 0
RefusalsAreOne = (system : Equations) (z w : Vector) (checks : List CheckCases) (fault again : ChecksFault) → IsSame system z w →
    EdgesGoFromPoints system → fault ≢ NoMemory → again ≢ NoMemory → IsChecksFault system z checks fault →
    IsChecksFault system w checks again → fault ≡ again
