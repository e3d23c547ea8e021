-- Which verdict is given on a check, and which fault: by its places in order of the edges, and at each by the cases in order.
use Rattle.std.specs.Prelude.{◌≡◌, ◌↔◌, ℕ, List, length, take}
use Rattle.std.specs.List.{All, AllZip}
use Rattle.flow_edges.specs.declared.checked.CheckCases.{CheckCases}
use Rattle.flow_edges.specs.declared.edge.Edge.{Edge}
use Rattle.flow_systems.specs.States.{RationalState}
use Rattle.flow_systems.specs.Equations.{Equations, Vector}
use Rattle.lp_simplex.specs.Operations.{capped}
use Rattle.ask_verdicts.specs.Firsts.{NoneBelow, IsFirst, FitsUpTo, IsFirstRefused}
use Rattle.ask_verdicts.specs.Lists.{IsFirstWide}
use Rattle.ask_verdicts.specs.Breaking.{NoneOpen}
use Rattle.ask_verdicts.specs.Verdicts.{IsOpen, AllFit, IsFirstFault}
use Rattle.ask_verdicts.specs.declared.outcome.Verdict.{Verdict}
use Rattle.ask_verdicts.specs.declared.outcome.Verdict.TheVariants.{Proved, Open}
use Rattle.ask_verdicts.specs.declared.outcome.VerdictFault.{VerdictFault}
use Rattle.ask_verdicts.specs.declared.outcome.VerdictFault.TheVariants.{Wide as WideVerdict}
use Rattle.ask_checks.specs.declared.outcome.CheckFault.{CheckFault}
use Rattle.ask_checks.specs.declared.outcome.CheckFault.TheVariants.{Wide as WideCheck, NoMemory as NoMemoryCheck}
use Rattle.ask_checks.specs.declared.outcome.ChecksFault.{ChecksFault}
use Rattle.ask_checks.specs.declared.outcome.ChecksFault.TheVariants.{Wide, NoMemory}
use Rattle.ask_checks.specs.Places.{NoneBreaksCheck, StandsAt, edge_of}

-- ---- behind the first k actions of an edge, if the check stands there
-- no case is open
abbrev pub NoneAt : Equations → Vector → CheckCases → Edge → ℕ → Type 0
NoneAt system z check edge k =
    StandsAt edge check k → NoneOpen system z edge.from (take k edge.actions) check.against (length check.against)

-- the check stands there, and the state is that of the first case which a state breaks
abbrev pub OpenAt : Equations → Vector → CheckCases → Edge → ℕ → RationalState → Type 0
OpenAt system z check edge k x = StandsAt edge check k × IsOpen system z edge.from (take k edge.actions) check.against x

-- no operation is wide up to the end of the first problem that isn't empty
abbrev pub FitsAt : Equations → Vector → CheckCases → Edge → ℕ → Type 0
FitsAt system z check edge k = StandsAt edge check k → AllFit system z edge.from (take k edge.actions) check.against

-- the check stands there, and the fault names the first wide operation with its case
abbrev pub FaultAt : Equations → Vector → CheckCases → Edge → ℕ → VerdictFault → Type 0
FaultAt system z check edge k fault = StandsAt edge check k × IsFirstFault system z edge.from (take k edge.actions) check.against fault

-- ---- on an edge, where a check of a program stands at most once
-- no case is open
abbrev pub NoneOn : Equations → Vector → CheckCases → Edge → Type 0
NoneOn system z check edge = NoneBelow (NoneAt system z check edge) (length edge.actions)

-- the state is that of the first place and case which a state breaks
abbrev pub OpenOn : Equations → Vector → CheckCases → Edge → RationalState → Type 0
OpenOn system z check edge x = IsFirst (NoneAt system z check edge) (OpenAt system z check edge) (length edge.actions) x

-- an open verdict has such a state
abbrev pub SaysOpenOn : Equations → Vector → CheckCases → Edge → Verdict → Type 0
SaysOpenOn system z check edge Proved = Unit {0}
SaysOpenOn system z check edge (Open state) = OpenOn system z check edge state

-- no operation is wide up to the end of the first problem that isn't empty
abbrev pub FitsOn : Equations → Vector → CheckCases → Edge → Type 0
FitsOn system z check edge = FitsUpTo (NoneAt system z check edge) (FitsAt system z check edge) (length edge.actions)

-- the fault names the first wide operation with its case
abbrev pub FaultOn : Equations → Vector → CheckCases → Edge → VerdictFault → Type 0
FaultOn system z check edge fault =
    IsFirstRefused (NoneAt system z check edge) (FitsAt system z check edge) (FaultAt system z check edge) (length edge.actions) fault

-- ---- one check
-- an open verdict has the state of the first edge and case which a state breaks
abbrev pub SaysOpen : Equations → Vector → CheckCases → Verdict → Type 0
SaysOpen system z check Proved = Unit {0}
SaysOpen system z check (Open state) =
    IsFirst (λ e. NoneOn system z check (edge_of system e)) (λ e. OpenOn system z check (edge_of system e)) (length system.edges) state

-- the verdict on a check: proved exactly where no state breaks it at any of its places, and else with the state of the first
pub record IsCheckVerdict (system : Equations) (z : Vector) (check : CheckCases) (verdict : Verdict) : Type 0 where
  pub proved : (verdict ≡ Proved) ↔ NoneBreaksCheck system z check
  pub state : SaysOpen system z check verdict

-- no operation is wide up to the end of the first problem that isn't empty
abbrev pub CheckFits : Equations → Vector → CheckCases → Type 0
CheckFits system z check =
    FitsUpTo (λ e. NoneOn system z check (edge_of system e)) (λ e. FitsOn system z check (edge_of system e)) (length system.edges)

-- a fault names the first wide operation with its edge and its case, before which no case is open; want of memory may come at any time
abbrev pub IsCheckFault : Equations → Vector → CheckCases → CheckFault → Type 0
IsCheckFault system z check (WideCheck edge case part wide) =
    IsFirstRefused (λ e. NoneOn system z check (edge_of system e)) (λ e. FitsOn system z check (edge_of system e))
    (λ e fault. (edge ≡ capped e) × FaultOn system z check (edge_of system e) fault) (length system.edges) (WideVerdict case part wide)
IsCheckFault system z check NoMemoryCheck = Unit {0}

-- ---- all checks
-- one verdict for each check, in order
abbrev pub AreCheckVerdicts : Equations → Vector → List CheckCases → List Verdict → Type 0
AreCheckVerdicts system z checks verdicts = AllZip (IsCheckVerdict system z) checks verdicts

-- no operation for a check is wide, up to the end of its first problem that isn't empty
abbrev pub ChecksFit : Equations → Vector → List CheckCases → Type 0
ChecksFit system z checks = All (CheckFits system z) checks

-- a fault names the first wide operation with its check, its edge and its case; want of memory may come at any time
abbrev pub IsChecksFault : Equations → Vector → List CheckCases → ChecksFault → Type 0
IsChecksFault system z checks (Wide check edge case part wide) =
    IsFirstWide (CheckFits system z) (IsCheckFault system z) checks check (WideCheck edge case part wide)
IsChecksFault system z checks NoMemory = Unit {0}
