-- There is one verdict at a place, and one refusal.
use Rattle.std.proofs.Common.{◌≡◌, ◌∙◌, ℕ, List, [], length, get_or, refl, sym, ap, subst}
use Rattle.std.proofs.lemmas.Option.{same_Some}
use Rattle.base_numbers.specs.Rational.{ℚ}
use Rattle.base_fractions.specs.declared.wide.Wide.{Wide}
use Rattle.base_fractions.specs.Operation.{Operation, operation_of}
use Rattle.lang_tree.specs.declared.form.Form.{Form}
use Rattle.flow_edges.specs.declared.edge.Action.{Action}
use Rattle.flow_systems.specs.States.{RationalState}
use Rattle.flow_systems.specs.Equations.{Equations, Vector}
use Rattle.flow_systems.specs.declared.spot.Part.{Part}
use Rattle.flow_systems.specs.declared.spot.Part.TheVariants.{Side, Pivot, Reading}
use Rattle.flow_systems.specs.declared.spot.PartFault.TheVariants.{Wide as WidePart}
use Rattle.lp_theory.specs.Simplex.{lp}
use Rattle.lp_simplex.specs.Operations.{Numbered, capped}
use Rattle.ask_verdicts.specs.Breaking.{BreaksSome, NoneBreaks, NoneOpen}
use Rattle.ask_verdicts.specs.Verdicts.{FitsFor, IsBreaking, IsFaultFor, IsOpen, IsVerdict, AllFit, IsFirstFault, case_problem, state_of}
use Rattle.ask_verdicts.specs.declared.outcome.Verdict.{Verdict}
use Rattle.ask_verdicts.specs.declared.outcome.Verdict.TheVariants.{Proved, Open}
use Rattle.ask_verdicts.specs.declared.outcome.VerdictFault.TheVariants.{Wide as WideVerdict}
use Rattle.ask_verdicts.proofs.firsts.Firsts.{same_first, first_found, same_refused}

-- an open verdict isn't `Proved`
pub open_apart : (x : RationalState) → Open x ≡ Proved → ⊥
open_apart x e = cc

-- ---- one verdict
module _ (system : Equations) (z : Vector) (p : ℕ) (before : List Action) (cases : List (List Form)) where
  breaking_apart : (k : ℕ) (x : RationalState) → IsBreaking system z p before (get_or cases k []) x
      → NoneBreaks system z p before (get_or cases k []) → ⊥
  breaking_apart k x b none = none x b.breaks

  -- where a verdict is open, some state breaks a case
  pub open_somewhere : (x : RationalState) → IsOpen system z p before cases x → NoneOpen system z p before cases (length cases) → ⊥
  open_somewhere x =
      first_found (λ k. NoneBreaks system z p before (get_or cases k [])) (λ k. IsBreaking system z p before (get_or cases k []))
      breaking_apart (length cases) x

  -- the state of an open verdict is one
  pub same_state : (x y : RationalState) → IsOpen system z p before cases x → IsOpen system z p before cases y → x ≡ y
  same_state x y a b =
      let number = same_first (λ k. NoneBreaks system z p before (get_or cases k []))
      (λ k. IsBreaking system z p before (get_or cases k [])) breaking_apart (length cases) x y a b in
      a.here.reads ∙ ap (λ k. state_of system before (lp (case_problem system z p before (get_or cases k [])))) number ∙ sym b.here.reads

  -- it breaks one of the cases
  pub breaks_some : (x : RationalState) → IsOpen system z p before cases x → BreaksSome system z p before cases x
  breaks_some x a = record { number = a.number; within = a.within; breaks = a.here.breaks }

  -- the verdict is one
  pub same_verdict : (v w : Verdict) → IsVerdict system z p before cases v → IsVerdict system z p before cases w → v ≡ w
  same_verdict Proved w a b = sym (b.proved.1 (a.proved.0 refl))
  same_verdict (Open x) Proved a b = absurd (open_apart x (a.proved.1 (b.proved.0 refl)))
  same_verdict (Open x) (Open y) a b = ap Open (same_state x y a.state b.state)

-- ---- the problem of a case
wide_of : Operation → Wide ℚ
wide_of o = record { op = o.op; left = o.left; right = o.right }

same_operation : (wide again : Wide ℚ) → operation_of (λ q. q) wide ≡ operation_of (λ q. q) again → wide ≡ again
unfolding wide_of
same_operation wide again e = ap wide_of e

module _ (system : Equations) (z : Vector) (p : ℕ) (before : List Action) (case : List Form) where
  wide_apart : (part : Part) (wide : Wide ℚ) → IsFaultFor system z p before case (WidePart part wide) → FitsFor system z p before case → ⊥
  wide_apart Side wide h fit = let none = (fit h.0).0 in let some = h.1 in cc
  wide_apart (Pivot n) wide h fit = let none = (fit h.0).1 in let some = h.1.1.2 in cc
  wide_apart Reading wide h fit = let none = (fit h.0).2 in let some = h.1.1.1 in cc

  same_wide : (part more : Part) (wide again : Wide ℚ) → IsFaultFor system z p before case (WidePart part wide)
      → IsFaultFor system z p before case (WidePart more again) → (part ≡ more) × (wide ≡ again)
  same_wide Side Side wide again h k = (refl, same_operation wide again (same_Some _ _ (sym h.1 ∙ k.1)))
  same_wide Side (Pivot n) wide again h k = absurd (let some = h.1 in let none = k.1.0 in cc)
  same_wide Side Reading wide again h k = absurd (let some = h.1 in let none = k.1.0 in cc)
  same_wide (Pivot m) Side wide again h k = absurd (let some = k.1 in let none = h.1.0 in cc)
  same_wide (Pivot m) (Pivot n) wide again h k =
      let e = same_Some _ _ (sym h.1.1.2 ∙ k.1.1.2) in
      let pivots = ap (λ (o : Numbered). o.pivot) e in
      (ap Pivot (h.1.1.1 ∙ ap capped pivots ∙ sym k.1.1.1), same_operation wide again (ap (λ (o : Numbered). o.operation) e))
  same_wide (Pivot m) Reading wide again h k = absurd (let some = h.1.1.2 in let none = k.1.1.0 in cc)
  same_wide Reading Side wide again h k = absurd (let some = k.1 in let none = h.1.0 in cc)
  same_wide Reading (Pivot n) wide again h k = absurd (let some = k.1.1.2 in let none = h.1.1.0 in cc)
  same_wide Reading Reading wide again h k = (refl, same_operation wide again (same_Some _ _ (sym h.1.1.1 ∙ k.1.1.1)))

-- ---- one refusal
module _ (system : Equations) (z : Vector) (p : ℕ) (before : List Action) (cases : List (List Form)) where
  fault_apart : (case : ℕ) (part : Part) (wide : Wide ℚ) (k : ℕ)
      → (case ≡ capped k) × IsFaultFor system z p before (get_or cases k []) (WidePart part wide)
      → FitsFor system z p before (get_or cases k []) → ⊥
  fault_apart case part wide k h fit = wide_apart system z p before (get_or cases k []) part wide h.1 fit

  -- where a wide operation is named there is one
  pub first_unfit : (case : ℕ) (part : Part) (wide : Wide ℚ) → IsFirstFault system z p before cases (WideVerdict case part wide)
      → AllFit system z p before cases → ⊥
  first_unfit case part wide a fit = fault_apart case part wide a.number a.here (fit a.number a.within a.before)

  module _ (case other : ℕ) (part more : Part) (wide again : Wide ℚ)
      (a : IsFirstFault system z p before cases (WideVerdict case part wide))
      (b : IsFirstFault system z p before cases (WideVerdict other more again)) where
    same_case : a.number ≡ b.number
    same_case =
        same_refused (λ k. NoneBreaks system z p before (get_or cases k [])) (λ k. FitsFor system z p before (get_or cases k []))
        (length cases) (λ k fault. (case ≡ capped k) × IsFaultFor system z p before (get_or cases k []) fault)
        (λ k fault. (other ≡ capped k) × IsFaultFor system z p before (get_or cases k []) fault) (WidePart part wide) (WidePart more again)
        (fault_apart case part wide) (fault_apart other more again) a b

    -- and it is the only one
    pub same_refusal : (case ≡ other) × (part ≡ more) × (wide ≡ again)
    same_refusal =
        let here = subst (λ k. IsFaultFor system z p before (get_or cases k []) (WidePart more again)) (sym same_case) b.here.1 in
        let same = same_wide system z p before (get_or cases a.number []) part more wide again a.here.1 here in
        (a.here.0 ∙ ap capped same_case ∙ sym b.here.0, same.0, same.1)
