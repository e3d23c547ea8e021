-- Verdicts and refusals are determined.
use Rattle.std.proofs.Common.{refl}
use Rattle.ask_verdicts.specs.Laws.{OpenStatesBreak, VerdictsAreOne, WideVerdictsDontFit, RefusalsAreOne}
use Rattle.ask_verdicts.specs.declared.outcome.VerdictFault.TheVariants.{Wide, NoMemory}
use Rattle.ask_verdicts.proofs.verdicts.Once.{breaks_some, same_verdict, first_unfit, same_refusal}
use Rattle.ask_verdicts.proofs.verdicts.SameBounds.{verdict_stays, first_fault_stays}

-- the state of an open verdict breaks one of the cases
pub open_breaks : OpenStatesBreak
open_breaks system z p before cases x h = breaks_some system z p before cases x h

-- vectors with the same bounds give one verdict
pub verdicts_are_one : VerdictsAreOne
verdicts_are_one system z w p before cases verdict again same there a b =
    same_verdict system w p before cases verdict again
    (verdict_stays system z w p (λ r l. same p r there l) before cases verdict a) b

-- where a wide operation is named there is one
pub wide_verdicts_dont_fit : WideVerdictsDontFit
wide_verdicts_dont_fit system z p before cases NoMemory n h fit = n refl
wide_verdicts_dont_fit system z p before cases (Wide case part wide) n h fit = first_unfit system z p before cases case part wide h fit

-- and it is the only one that is named
pub refusals_are_one : RefusalsAreOne
refusals_are_one system z w p before cases NoMemory again same there n m h k = absurd (n refl)
refusals_are_one system z w p before cases (Wide case part wide) NoMemory same there n m h k = absurd (m refl)
refusals_are_one system z w p before cases (Wide case part wide) (Wide other more again) same there n m h k =
    let here = first_fault_stays system z w p (λ r l. same p r there l) before cases (Wide case part wide) h in
    let all = same_refusal system w p before cases case other part more wide again here k in
    let cases_same = all.0 in
    let parts = all.1 in
    let wides = all.2 in
    cc
