-- Verdicts and refusals of checks are determined.
use Rattle.std.proofs.Common.{◌≡◌, ℕ, List, refl, sym, subst}
use Rattle.std.specs.List.{All}
use Rattle.base_numbers.specs.Rational.{ℚ}
use Rattle.base_fractions.specs.declared.wide.Wide.{Wide}
use Rattle.flow_edges.specs.declared.checked.CheckCases.{CheckCases}
use Rattle.flow_systems.specs.Equations.{Equations, Vector}
use Rattle.flow_systems.specs.declared.spot.Part.{Part}
use Rattle.ask_verdicts.proofs.lists.Once.{same_answers, answers_stay, fits_there, same_item, wide_stays}
use Rattle.ask_checks.specs.Laws.{VerdictsAreOne, WideChecksDontFit, RefusalsAreOne}
use Rattle.ask_checks.specs.Verdicts.{IsCheckVerdict, CheckFits, IsCheckFault, IsChecksFault}
use Rattle.ask_checks.specs.declared.outcome.CheckFault.TheVariants.{Wide as WideCheck}
use Rattle.ask_checks.specs.declared.outcome.ChecksFault.TheVariants.{Wide as WideChecks, NoMemory}
use Rattle.ask_checks.proofs.verdicts.Once.{same_check, check_unfit, same_check_fault}
use Rattle.ask_checks.proofs.verdicts.SameBounds.{same_sources, check_stays, check_fits_stay, check_fault_stays}

every : (checks : List CheckCases) → All (λ check. Unit {0}) checks
every checks k d l = tt

-- vectors with the same bounds give checks the same verdicts
pub verdicts_are_one : VerdictsAreOne
verdicts_are_one system z w checks verdicts again same points a b =
    let sources = same_sources system z w same points in
    same_answers (IsCheckVerdict system w) (same_check system w) checks verdicts again
    (answers_stay (λ (check : CheckCases). Unit {0}) (IsCheckVerdict system z) (IsCheckVerdict system w)
    (λ check verdict k. check_stays system z w sources check verdict) checks verdicts (every checks) a) b

module _ (system : Equations) (z : Vector) (checks : List CheckCases) (named other edge later case after : ℕ) (part more : Part)
    (wide again : Wide ℚ) (a : IsChecksFault system z checks (WideChecks named edge case part wide))
    (b : IsChecksFault system z checks (WideChecks other later after more again)) where
  same_wide : WideChecks named edge case part wide ≡ WideChecks other later after more again
  same_wide =
      let items = same_item (CheckFits system z) checks (IsCheckFault system z) (IsCheckFault system z) named other
      (WideCheck edge case part wide) (WideCheck later after more again)
      (λ check h fit. check_unfit system z check edge case part wide h fit)
      (λ check h fit. check_unfit system z check later after more again h fit) a b in
      let here = subst (λ (c : CheckCases). IsCheckFault system z c (WideCheck later after more again)) (sym items.0) b.here in
      let same = same_check_fault system z a.item edge later case after part more wide again a.here here in
      let names = items.1 in
      let edges = same.0 in
      let cases = same.1 in
      let parts = same.2 in
      let wides = same.3 in
      cc

-- where a wide operation is named there is one
pub wide_checks_dont_fit : WideChecksDontFit
wide_checks_dont_fit system z checks NoMemory n h fit = n refl
wide_checks_dont_fit system z checks (WideChecks named edge case part wide) n h fit =
    check_unfit system z h.item edge case part wide h.here (fits_there (CheckFits system z) checks h.number h.item h.listed fit)

-- vectors with the same bounds name the same wide operation
pub refusals_are_one : RefusalsAreOne
refusals_are_one system z w checks NoMemory again same points n m h k = absurd (n refl)
refusals_are_one system z w checks (WideChecks named edge case part wide) NoMemory same points n m h k = absurd (m refl)
refusals_are_one system z w checks (WideChecks named edge case part wide) (WideChecks other later after more again) same points n m h k =
    let sources = same_sources system z w same points in
    let here = wide_stays (λ (check : CheckCases). Unit {0}) (CheckFits system z) (CheckFits system w) (IsCheckFault system z)
    (IsCheckFault system w) (λ check t fit. check_fits_stay system z w sources check fit)
    (λ check fault t f. check_fault_stays system z w sources check fault f) checks named (WideCheck edge case part wide) (every checks) h in
    same_wide system w checks named other edge later case after part more wide again here k
