-- Vectors with the same bounds at a point say the same of the places behind it.
use Rattle.std.proofs.Common.{◌≡◌, ◌∙◌, ℕ, ◌<◌, List, [], ◌++◌, length, get_or, None, sym, ap, subst}
use Rattle.std.proofs.lemmas.Option.{slice_get_within}
use Rattle.base_numbers.specs.Extended.{fin, ◌≤ᴱ◌}
use Rattle.base_fractions.specs.Fits.{long_limit}
use Rattle.base_fractions.specs.Operation.{operation_of, first_wide}
use Rattle.lang_tree.specs.declared.form.Form.{Form}
use Rattle.flow_edges.specs.declared.edge.Action.{Action}
use Rattle.flow_systems.specs.States.{RationalState, dotℚ}
use Rattle.flow_systems.specs.Equations.{Equations, Vector}
use Rattle.flow_systems.specs.declared.spot.PartFault.{PartFault}
use Rattle.flow_systems.specs.declared.spot.PartFault.TheVariants.{Wide as WidePart, NoMemory as NoMemoryPart}
use Rattle.theory_validity.specs.Words.{width, guard_forms, end_form}
use Rattle.lp_theory.specs.Problem.{Problem}
use Rattle.lp_theory.specs.Simplex.{lp}
use Rattle.lp_theory.specs.Free.{split_problem}
use Rattle.lp_simplex.specs.Operations.{capped, first_refused, run_operations}
use Rattle.theory_transformers.specs.Limits.{limits_problem}
use Rattle.theory_transformers.specs.EdgeProblems.{guard_limits, edge_limits, edge_problem, lost}
use Rattle.theory_rounds.proofs.raises.ProblemsAgree.{lost_agrees, same_sources}
use Rattle.solve_composition.specs.Behind.{placed_actions}
use Rattle.solve_transformer.specs.Places.{placed_edge, sides_of, state_reading, IsWideAt}
use Rattle.solve_transformer.specs.Values.{reading_operations}
use Rattle.ask_verdicts.specs.Breaking.{Breaks, NoneBreaks, NoneOpen}
use Rattle.ask_verdicts.specs.Verdicts.{FitsFor, IsBreaking, IsFaultFor, IsVerdict, SaysOpen, AllFit, IsFirstFault, case_problem, state_of}
use Rattle.ask_verdicts.specs.declared.outcome.Verdict.{Verdict}
use Rattle.ask_verdicts.specs.declared.outcome.Verdict.TheVariants.{Proved, Open}
use Rattle.ask_verdicts.specs.declared.outcome.VerdictFault.{VerdictFault}
use Rattle.ask_verdicts.specs.declared.outcome.VerdictFault.TheVariants.{Wide as WideVerdict, NoMemory}
use Rattle.ask_verdicts.proofs.firsts.Firsts.{first_stays, refused_stays, fits_stay}

-- the same bounds at a point
abbrev pub SameAt : Equations → Vector → Vector → ℕ → Type 0
SameAt system z w p = (r : ℕ) → r < length system.template → z p r ≡ w p r

-- and the other way round
pub same_back : (system : Equations) (z w : Vector) (p : ℕ) → SameAt system z w p → SameAt system w z p
same_back system z w p same r l = sym (same r l)

-- ---- one case
module _ (system : Equations) (z w : Vector) (p : ℕ) (same : SameAt system z w p) (before : List Action) (case : List Form) where
  breaks_stay : (x : RationalState) → Breaks system z p before case x → Breaks system w p before case x
  breaks_stay x b = record {
    start = b.start;
    size = b.size;
    fits = λ r row e. subst (λ v. fin (dotℚ row b.start) ≤ᴱ v) (same r (slice_get_within system.template r row e)) (b.fits r row e);
    trace = b.trace;
    passes = b.passes;
  }

  problem_stays : edge_problem system z (placed_edge p before case) [] ≡ edge_problem system w (placed_edge p before case) []
  unfolding edge_problem edge_limits
  problem_stays =
      let actions = placed_actions before case in
      ap (λ s. limits_problem (width system.variables actions) (s ++ guard_limits (λ u. u) (guard_forms system.variables actions))
      (end_form system.variables actions []).coeffs) (same_sources (λ r u. u) system.variables (z p) (w p) system.template same)

  whole_stays : case_problem system z p before case ≡ case_problem system w p before case
  whole_stays = ap split_problem problem_stays

  lost_stays : lost (z p) system.template ≡ lost (w p) system.template
  lost_stays = lost_agrees system (λ _ r. z p r) (λ _ r. w p r) (λ _ r l. same r l) p

  breaking_stays : (x : RationalState) → IsBreaking system z p before case x → IsBreaking system w p before case x
  breaking_stays x b = record {
    breaks = breaks_stay x b.breaks;
    reads = b.reads ∙ ap (λ (P : Problem). state_of system before (lp P)) whole_stays;
  }

  fit_stays : FitsFor system z p before case → FitsFor system w p before case
  fit_stays fit e =
      let n = system.variables in
      let actions = placed_actions before case in
      let all = fit (lost_stays ∙ e) in (
        all.0,
        subst (λ (P : Problem). first_refused long_limit (run_operations P) ≡ None) whole_stays all.1,
        subst (λ (P : Problem). first_wide long_limit (reading_operations (width n actions) (end_form n actions []).constant (lp P)
            ++ state_reading n actions (lp P)) ≡ None) whole_stays all.2,
      )

  fault_stays : (fault : PartFault) → IsFaultFor system z p before case fault → IsFaultFor system w p before case fault
  fault_stays (WidePart part wide) h =
      let n = system.variables in
      let actions = placed_actions before case in (
        sym lost_stays ∙ h.0,
        subst (λ (P : Problem). IsWideAt (sides_of system (placed_edge p before case)) P
            (reading_operations (width n actions) (end_form n actions []).constant (lp P) ++ state_reading n actions (lp P)) part
            (operation_of (λ q. q) wide)) whole_stays h.1,
      )
  fault_stays NoMemoryPart h = tt

none_breaks_stays : (system : Equations) (z w : Vector) (p : ℕ) → SameAt system z w p → (before : List Action) (case : List Form)
    → NoneBreaks system z p before case → NoneBreaks system w p before case
none_breaks_stays system z w p same before case none x b =
    none x (breaks_stay system w z p (same_back system z w p same) before case x b)

-- ---- the cases at a place
module _ (system : Equations) (z w : Vector) (p : ℕ) (same : SameAt system z w p) (before : List Action) (cases : List (List Form)) where
  -- where no state breaks the first cases
  pub none_stays : (n : ℕ) → NoneOpen system z p before cases n → NoneOpen system w p before cases n
  none_stays n none k l = none_breaks_stays system z w p same before (get_or cases k []) (none k l)

  -- an open verdict
  pub says_stays : (verdict : Verdict) → SaysOpen system z p before cases verdict → SaysOpen system w p before cases verdict
  says_stays Proved h = tt
  says_stays (Open x) h =
      first_stays (λ k. NoneBreaks system z p before (get_or cases k [])) (λ k. NoneBreaks system w p before (get_or cases k []))
      (length cases) (λ k l. none_breaks_stays system z w p same before (get_or cases k []))
      (λ k. IsBreaking system z p before (get_or cases k [])) (λ k. IsBreaking system w p before (get_or cases k [])) x
      (λ k l. breaking_stays system z w p same before (get_or cases k []) x) h

  -- where no operation is wide
  pub all_fit_stays : AllFit system z p before cases → AllFit system w p before cases
  all_fit_stays fit =
      fits_stay (λ k. NoneBreaks system w p before (get_or cases k [])) (λ k. NoneBreaks system z p before (get_or cases k []))
      (length cases) (λ k l. none_breaks_stays system w z p (same_back system z w p same) before (get_or cases k []))
      (λ k. FitsFor system z p before (get_or cases k [])) (λ k. FitsFor system w p before (get_or cases k []))
      (λ k l. fit_stays system z w p same before (get_or cases k [])) fit

  -- a fault
  pub first_fault_stays : (fault : VerdictFault) → IsFirstFault system z p before cases fault → IsFirstFault system w p before cases fault
  first_fault_stays (WideVerdict case part wide) h =
      refused_stays (λ k. NoneBreaks system z p before (get_or cases k [])) (λ k. NoneBreaks system w p before (get_or cases k []))
      (length cases) (λ k l. none_breaks_stays system z w p same before (get_or cases k []))
      (λ k. FitsFor system z p before (get_or cases k [])) (λ k. FitsFor system w p before (get_or cases k []))
      (λ k fault. (case ≡ capped k) × IsFaultFor system z p before (get_or cases k []) fault)
      (λ k fault. (case ≡ capped k) × IsFaultFor system w p before (get_or cases k []) fault)
      (WidePart part wide) (λ k l. fit_stays system z w p same before (get_or cases k []))
      (λ k l f. (f.0, fault_stays system z w p same before (get_or cases k []) (WidePart part wide) f.1)) h
  first_fault_stays NoMemory h = tt

-- the verdict
pub verdict_stays : (system : Equations) (z w : Vector) (p : ℕ) → SameAt system z w p → (before : List Action) (cases : List (List Form))
    (verdict : Verdict) → IsVerdict system z p before cases verdict → IsVerdict system w p before cases verdict
verdict_stays system z w p same before cases verdict h = record {
  proved = (
    (λ e. none_stays system z w p same before cases (length cases) (h.proved.0 e)),
    (λ none. h.proved.1 (none_stays system w z p (same_back system z w p same) before cases (length cases) none)),
  );
  state = says_stays system z w p same before cases verdict h.state;
}
