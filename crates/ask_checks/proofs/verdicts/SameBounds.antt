-- Vectors with the same bounds say the same of a check.
use Rattle.std.proofs.Common.{◌≡◌, ℕ, ◌<◌, length, take}
use Rattle.flow_edges.specs.declared.checked.CheckCases.{CheckCases}
use Rattle.flow_edges.specs.declared.edge.Edge.{Edge}
use Rattle.flow_systems.specs.States.{RationalState}
use Rattle.flow_systems.specs.Equations.{Equations, Vector}
use Rattle.flow_systems.specs.SolutionLaws.{IsSame}
use Rattle.lp_simplex.specs.Operations.{capped}
use Rattle.ask_verdicts.specs.declared.outcome.Verdict.{Verdict}
use Rattle.ask_verdicts.specs.declared.outcome.Verdict.TheVariants.{Proved, Open}
use Rattle.ask_verdicts.specs.declared.outcome.VerdictFault.{VerdictFault}
use Rattle.ask_verdicts.specs.declared.outcome.VerdictFault.TheVariants.{Wide as WideVerdict}
use Rattle.ask_verdicts.proofs.firsts.Firsts.{first_stays, refused_stays, fits_stay}
use Rattle.ask_verdicts.proofs.verdicts.SameBounds.{SameAt, same_back, none_stays, says_stays, all_fit_stays, first_fault_stays}
use Rattle.ask_checks.specs.Laws.{EdgesGoFromPoints}
use Rattle.ask_checks.specs.Places.{NoneBreaksCheck, edge_of}
use Rattle.ask_checks.specs.Verdicts.{NoneAt, OpenAt, FitsAt, FaultAt, NoneOn, OpenOn, FitsOn, FaultOn, SaysOpen, CheckFits, IsCheckFault}
use Rattle.ask_checks.specs.Verdicts.{IsCheckVerdict}
use Rattle.ask_checks.specs.declared.outcome.CheckFault.{CheckFault}
use Rattle.ask_checks.specs.declared.outcome.CheckFault.TheVariants.{Wide as WideCheck, NoMemory}
use Rattle.ask_checks.proofs.verdicts.Everywhere.{edge_listed, none_everywhere, none_breaks_check}

-- ---- one edge
module _ (system : Equations) (z w : Vector) (check : CheckCases) (edge : Edge) (same : SameAt system z w edge.from) where
  none_at_stays : (k : ℕ) → NoneAt system z check edge k → NoneAt system w check edge k
  none_at_stays k h stands =
      none_stays system z w edge.from same (take k edge.actions) check.against (length check.against) (h stands)

  none_on_stays : NoneOn system z check edge → NoneOn system w check edge
  none_on_stays h k l = none_at_stays k (h k l)

  open_on_stays : (x : RationalState) → OpenOn system z check edge x → OpenOn system w check edge x
  open_on_stays x h =
      first_stays (NoneAt system z check edge) (NoneAt system w check edge) (length edge.actions) (λ k l. none_at_stays k)
      (OpenAt system z check edge) (OpenAt system w check edge) x
      (λ k l a. (a.0, says_stays system z w edge.from same (take k edge.actions) check.against (Open x) a.1)) h

  fits_at_stays : (k : ℕ) → FitsAt system z check edge k → FitsAt system w check edge k
  fits_at_stays k h stands = all_fit_stays system z w edge.from same (take k edge.actions) check.against (h stands)

  fault_on_stays : (fault : VerdictFault) → FaultOn system z check edge fault → FaultOn system w check edge fault
  fault_on_stays fault h =
      refused_stays (NoneAt system z check edge) (NoneAt system w check edge) (length edge.actions) (λ k l. none_at_stays k)
      (FitsAt system z check edge) (FitsAt system w check edge) (FaultAt system z check edge) (FaultAt system w check edge) fault
      (λ k l. fits_at_stays k)
      (λ k l f. (f.0, first_fault_stays system z w edge.from same (take k edge.actions) check.against fault f.1)) h

fits_on_stays : (system : Equations) (z w : Vector) (check : CheckCases) (edge : Edge) → SameAt system z w edge.from
    → FitsOn system z check edge → FitsOn system w check edge
fits_on_stays system z w check edge same h =
    fits_stay (NoneAt system w check edge) (NoneAt system z check edge) (length edge.actions)
    (λ k l. none_at_stays system w z check edge (same_back system z w edge.from same) k) (FitsAt system z check edge)
    (FitsAt system w check edge) (λ k l. fits_at_stays system z w check edge same k) h

-- ---- all edges
-- the vectors have the same bounds at the source of each edge
abbrev pub SameSources : Equations → Vector → Vector → Type 0
SameSources system z w = (e : ℕ) → e < length system.edges → SameAt system z w (edge_of system e).from

-- as vectors with the same bounds have
pub same_sources : (system : Equations) (z w : Vector) → IsSame system z w → EdgesGoFromPoints system → SameSources system z w
same_sources system z w same points e l r m = same (edge_of system e).from r (points (edge_of system e) (edge_listed system e l)) m

-- and the other way round
sources_back : (system : Equations) (z w : Vector) → SameSources system z w → SameSources system w z
sources_back system z w same e l = same_back system z w (edge_of system e).from (same e l)

module _ (system : Equations) (z w : Vector) (same : SameSources system z w) (check : CheckCases) where
  none_edge_stays : (e : ℕ) → e < length system.edges → NoneOn system z check (edge_of system e) → NoneOn system w check (edge_of system e)
  none_edge_stays e l = none_on_stays system z w check (edge_of system e) (same e l)

  says_open_stays : (verdict : Verdict) → SaysOpen system z check verdict → SaysOpen system w check verdict
  says_open_stays Proved h = tt
  says_open_stays (Open x) h =
      first_stays (λ e. NoneOn system z check (edge_of system e)) (λ e. NoneOn system w check (edge_of system e)) (length system.edges)
      none_edge_stays (λ e. OpenOn system z check (edge_of system e)) (λ e. OpenOn system w check (edge_of system e)) x
      (λ e l. open_on_stays system z w check (edge_of system e) (same e l) x) h

  -- a refusal
  pub check_fault_stays : (fault : CheckFault) → IsCheckFault system z check fault → IsCheckFault system w check fault
  check_fault_stays (WideCheck named case part wide) h =
      refused_stays (λ e. NoneOn system z check (edge_of system e)) (λ e. NoneOn system w check (edge_of system e)) (length system.edges)
      none_edge_stays (λ e. FitsOn system z check (edge_of system e)) (λ e. FitsOn system w check (edge_of system e))
      (λ e fault. (named ≡ capped e) × FaultOn system z check (edge_of system e) fault)
      (λ e fault. (named ≡ capped e) × FaultOn system w check (edge_of system e) fault) (WideVerdict case part wide)
      (λ e l. fits_on_stays system z w check (edge_of system e) (same e l))
      (λ e l f. (f.0, fault_on_stays system z w check (edge_of system e) (same e l) (WideVerdict case part wide) f.1)) h
  check_fault_stays NoMemory h = tt

-- where no operation is wide
pub check_fits_stay : (system : Equations) (z w : Vector) → SameSources system z w → (check : CheckCases) → CheckFits system z check
    → CheckFits system w check
check_fits_stay system z w same check h =
    fits_stay (λ e. NoneOn system w check (edge_of system e)) (λ e. NoneOn system z check (edge_of system e)) (length system.edges)
    (none_edge_stays system w z (sources_back system z w same) check) (λ e. FitsOn system z check (edge_of system e))
    (λ e. FitsOn system w check (edge_of system e)) (λ e l. fits_on_stays system z w check (edge_of system e) (same e l)) h

none_check_stays : (system : Equations) (z w : Vector) → SameSources system z w → (check : CheckCases)
    → NoneBreaksCheck system z check → NoneBreaksCheck system w check
none_check_stays system z w same check none =
    none_breaks_check system w check (λ e l. none_edge_stays system z w same check e l (none_everywhere system z check none e l))

-- the verdict
pub check_stays : (system : Equations) (z w : Vector) → SameSources system z w → (check : CheckCases) (verdict : Verdict)
    → IsCheckVerdict system z check verdict → IsCheckVerdict system w check verdict
check_stays system z w same check verdict h = record {
  proved = (
    (λ e. none_check_stays system z w same check (h.proved.0 e)),
    (λ none. h.proved.1 (none_check_stays system w z (sources_back system z w same) check none)),
  );
  state = says_open_stays system z w same check verdict h.state;
}
