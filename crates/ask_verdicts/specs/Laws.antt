-- Laws: what a proved verdict says of runs, what an open one says, and that verdicts and refusals are determined.
use Rattle.std.specs.Prelude.{◌≡◌, ◌≢◌, ℕ, ◌<◌, ◌≤◌, List, false, length}
use Rattle.lang_tree.specs.declared.form.Form.{Form}
use Rattle.lang_tree.specs.Tree.{Condition}
use Rattle.lang_tree.specs.Cases.{cases_of}
use Rattle.lang_tree.specs.Meaning.{State, MayBe}
use Rattle.flow_edges.specs.declared.edge.Action.{Action}
use Rattle.flow_systems.specs.States.{RationalState, rational, Traces}
use Rattle.flow_systems.specs.Equations.{Equations, Vector, Fits}
use Rattle.flow_systems.specs.SolutionLaws.{IsSame}
use Rattle.ask_verdicts.specs.Breaking.{Breaks, BreaksSome, NoneOpen}
use Rattle.ask_verdicts.specs.Verdicts.{SaysOpen, IsVerdict, AllFit, IsFirstFault}
use Rattle.ask_verdicts.specs.declared.outcome.Verdict.{Verdict}
use Rattle.ask_verdicts.specs.declared.outcome.Verdict.TheVariants.{Open}
use Rattle.ask_verdicts.specs.declared.outcome.VerdictFault.{VerdictFault}
use Rattle.ask_verdicts.specs.declared.outcome.VerdictFault.TheVariants.{NoMemory}

-- where no state breaks a case against a condition, it isn't false at an integer state to which the actions lead from one that fits
abbrev pub ProvedPlacesHold : Type 0
ProvedPlacesHold = (system : Equations) (z : Vector) (p : ℕ) (before : List Action) (c : Condition) →
    NoneOpen system z p before (cases_of false c) (length (cases_of false c)) →
    (x : RationalState) (y : State) → length x ≡ system.variables → Fits system z p x → Traces before x (rational y) → ¬ (MayBe false c y)

-- the state of an open verdict breaks one of the cases
abbrev pub OpenStatesBreak : Type 0
OpenStatesBreak = (system : Equations) (z : Vector) (p : ℕ) (before : List Action) (cases : List (List Form)) (x : RationalState) →
    SaysOpen system z p before cases (Open x) → BreaksSome system z p before cases x

-- a state that breaks a case has a value for each variable, beside those that hidden ones may have
abbrev pub BreakingStatesHaveValues : Type 0
BreakingStatesHaveValues = (system : Equations) (z : Vector) (p : ℕ) (before : List Action) (case : List Form) (x : RationalState) →
    Breaks system z p before case x → system.variables ≤ length x

-- vectors with the same bounds give one verdict at a place of the system
abbrev pub VerdictsAreOne : Type 0
VerdictsAreOne =
    (system : Equations) (z w : Vector) (p : ℕ) (before : List Action) (cases : List (List Form)) (verdict again : Verdict) →
    IsSame system z w → p < system.points → IsVerdict system z p before cases verdict → IsVerdict system w p before cases again
    → verdict ≡ again

-- a wide operation is named only where there is one
abbrev pub WideVerdictsDontFit : Type 0
WideVerdictsDontFit = (system : Equations) (z : Vector) (p : ℕ) (before : List Action) (cases : List (List Form)) (fault : VerdictFault) →
    fault ≢ NoMemory → IsFirstFault system z p before cases fault → ¬ (AllFit system z p before cases)

-- and it is the only one that is named, by all vectors with the same bounds
abbrev pub RefusalsAreOne : Type 0
RefusalsAreOne =
    (system : Equations) (z w : Vector) (p : ℕ) (before : List Action) (cases : List (List Form)) (fault again : VerdictFault) →
    IsSame system z w → p < system.points → fault ≢ NoMemory → again ≢ NoMemory → IsFirstFault system z p before cases fault →
    IsFirstFault system w p before cases again → fault ≡ again
