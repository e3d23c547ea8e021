-- There is one verdict on a check, and one refusal.
use Rattle.std.proofs.Common.{◌≡◌, ◌∙◌, ℕ, length, take, refl, sym, ap, subst}
use Rattle.base_numbers.specs.Rational.{ℚ}
use Rattle.base_fractions.specs.declared.wide.Wide.{Wide}
use Rattle.flow_edges.specs.declared.checked.CheckCases.{CheckCases}
use Rattle.flow_edges.specs.declared.edge.Edge.{Edge}
use Rattle.flow_systems.specs.States.{RationalState}
use Rattle.flow_systems.specs.Equations.{Equations, Vector}
use Rattle.flow_systems.specs.declared.spot.Part.{Part}
use Rattle.lp_simplex.specs.Operations.{capped}
use Rattle.ask_verdicts.specs.Verdicts.{IsOpen, IsFirstFault}
use Rattle.ask_verdicts.specs.declared.outcome.Verdict.{Verdict}
use Rattle.ask_verdicts.specs.declared.outcome.Verdict.TheVariants.{Proved, Open}
use Rattle.ask_verdicts.specs.declared.outcome.VerdictFault.TheVariants.{Wide as WideVerdict}
use Rattle.ask_verdicts.proofs.firsts.Firsts.{same_first, refused_unfit, same_refused}
use Rattle.ask_verdicts.proofs.verdicts.Once.{open_apart, open_somewhere, same_state, first_unfit, same_refusal}
use Rattle.ask_checks.specs.Places.{edge_of}
use Rattle.ask_checks.specs.Verdicts.{NoneAt, OpenAt, FitsAt, FaultAt, NoneOn, OpenOn, FitsOn, FaultOn, SaysOpen, CheckFits, IsCheckFault}
use Rattle.ask_checks.specs.Verdicts.{IsCheckVerdict}
use Rattle.ask_checks.specs.declared.outcome.CheckFault.TheVariants.{Wide as WideCheck}
use Rattle.ask_checks.proofs.verdicts.Turns.{on_apart}

module _ (system : Equations) (z : Vector) (check : CheckCases) where
  -- ---- one verdict
  open_apart_at : (edge : Edge) (k : ℕ) (x : RationalState) → OpenAt system z check edge k x → NoneAt system z check edge k → ⊥
  open_apart_at edge k x a none = open_somewhere system z edge.from (take k edge.actions) check.against x a.1 (none a.0)

  same_on : (edge : Edge) (x y : RationalState) → OpenOn system z check edge x → OpenOn system z check edge y → x ≡ y
  same_on edge x y a b =
      let number = same_first (NoneAt system z check edge) (OpenAt system z check edge) (open_apart_at edge) (length edge.actions) x y a b
      in
      same_state system z edge.from (take a.number edge.actions) check.against x y a.here.1
      (subst (λ k. IsOpen system z edge.from (take k edge.actions) check.against y) (sym number) b.here.1)

  same_open : (x y : RationalState) → SaysOpen system z check (Open x) → SaysOpen system z check (Open y) → x ≡ y
  same_open x y a b =
      let number = same_first (λ e. NoneOn system z check (edge_of system e)) (λ e. OpenOn system z check (edge_of system e))
      (λ e s h none. on_apart system z check (edge_of system e) s h none) (length system.edges) x y a b in
      same_on (edge_of system a.number) x y a.here (subst (λ e. OpenOn system z check (edge_of system e) y) (sym number) b.here)

  -- the verdict on a check is one
  pub same_check : (v w : Verdict) → IsCheckVerdict system z check v → IsCheckVerdict system z check w → v ≡ w
  same_check Proved w a b = sym (b.proved.1 (a.proved.0 refl))
  same_check (Open x) Proved a b = absurd (open_apart x (a.proved.1 (b.proved.0 refl)))
  same_check (Open x) (Open y) a b = ap Open (same_open x y a.state b.state)

  -- ---- one refusal
  fault_apart_at : (edge : Edge) (case : ℕ) (part : Part) (wide : Wide ℚ) (k : ℕ)
      → FaultAt system z check edge k (WideVerdict case part wide) → FitsAt system z check edge k → ⊥
  fault_apart_at edge case part wide k h fit =
      first_unfit system z edge.from (take k edge.actions) check.against case part wide h.1 (fit h.0)

  fault_apart_on : (edge : Edge) (case : ℕ) (part : Part) (wide : Wide ℚ) → FaultOn system z check edge (WideVerdict case part wide)
      → FitsOn system z check edge → ⊥
  fault_apart_on edge case part wide =
      refused_unfit (NoneAt system z check edge) (FitsAt system z check edge) (length edge.actions) (FaultAt system z check edge)
      (WideVerdict case part wide) (fault_apart_at edge case part wide)

  same_fault_on : (edge : Edge) (case other : ℕ) (part more : Part) (wide again : Wide ℚ)
      → FaultOn system z check edge (WideVerdict case part wide) → FaultOn system z check edge (WideVerdict other more again)
      → (case ≡ other) × (part ≡ more) × (wide ≡ again)
  same_fault_on edge case other part more wide again a b =
      let number = same_refused (NoneAt system z check edge) (FitsAt system z check edge) (length edge.actions)
      (FaultAt system z check edge)
      (FaultAt system z check edge) (WideVerdict case part wide) (WideVerdict other more again) (fault_apart_at edge case part wide)
      (fault_apart_at edge other more again) a b in
      same_refusal system z edge.from (take a.number edge.actions) check.against case other part more wide again a.here.1
      (subst (λ k. IsFirstFault system z edge.from (take k edge.actions) check.against (WideVerdict other more again)) (sym number)
      b.here.1)

  fault_apart_edge : (named case : ℕ) (part : Part) (wide : Wide ℚ) (e : ℕ)
      → (named ≡ capped e) × FaultOn system z check (edge_of system e) (WideVerdict case part wide)
      → FitsOn system z check (edge_of system e) → ⊥
  fault_apart_edge named case part wide e h fit = fault_apart_on (edge_of system e) case part wide h.1 fit

  -- where a wide operation is named there is one
  pub check_unfit : (named case : ℕ) (part : Part) (wide : Wide ℚ) → IsCheckFault system z check (WideCheck named case part wide)
      → CheckFits system z check → ⊥
  check_unfit named case part wide =
      refused_unfit (λ e. NoneOn system z check (edge_of system e)) (λ e. FitsOn system z check (edge_of system e)) (length system.edges)
      (λ e fault. (named ≡ capped e) × FaultOn system z check (edge_of system e) fault) (WideVerdict case part wide)
      (fault_apart_edge named case part wide)

  -- and it is the only one
  pub same_check_fault : (named later case other : ℕ) (part more : Part) (wide again : Wide ℚ)
      → IsCheckFault system z check (WideCheck named case part wide) → IsCheckFault system z check (WideCheck later other more again)
      → (named ≡ later) × (case ≡ other) × (part ≡ more) × (wide ≡ again)
  same_check_fault named later case other part more wide again a b =
      let number = same_refused (λ e. NoneOn system z check (edge_of system e)) (λ e. FitsOn system z check (edge_of system e))
      (length system.edges) (λ e fault. (named ≡ capped e) × FaultOn system z check (edge_of system e) fault)
      (λ e fault. (later ≡ capped e) × FaultOn system z check (edge_of system e) fault) (WideVerdict case part wide)
      (WideVerdict other more again) (fault_apart_edge named case part wide) (fault_apart_edge later other more again) a b in
      let here = subst (λ e. FaultOn system z check (edge_of system e) (WideVerdict other more again)) (sym number) b.here.1 in
      let same = same_fault_on (edge_of system a.number) case other part more wide again a.here.1 here in
      (a.here.0 ∙ ap capped number ∙ sym b.here.0, same.0, same.1, same.2)
