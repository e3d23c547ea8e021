-- The refusals of claims.
use Rattle.std.proofs.Common.{◌≡◌, ℕ, ◌<◌, List, [], refl, sym, subst}
use Rattle.base_numbers.specs.Rational.{ℚ}
use Rattle.base_fractions.specs.declared.wide.Wide.{Wide}
use Rattle.flow_systems.specs.Equations.{Equations, Vector}
use Rattle.flow_systems.specs.declared.spot.Part.{Part}
use Rattle.ask_verdicts.specs.Verdicts.{IsFirstFault}
use Rattle.ask_verdicts.specs.declared.outcome.VerdictFault.TheVariants.{Wide as WideVerdict}
use Rattle.ask_verdicts.proofs.lists.Once.{fits_there, same_item, wide_stays}
use Rattle.ask_verdicts.proofs.verdicts.Once.{first_unfit, same_refusal}
use Rattle.ask_verdicts.proofs.verdicts.SameBounds.{all_fit_stays, first_fault_stays}
use Rattle.ask_claims.specs.AllVerdicts.{ClaimFits, IsClaimsFault}
use Rattle.ask_claims.specs.Laws.{WideClaimsDontFit, RefusalsAreOne}
use Rattle.ask_claims.specs.declared.claim.Claim.{Claim}
use Rattle.ask_claims.specs.declared.outcome.ClaimsFault.TheVariants.{Wide as WideClaim, NoMemory}

module _ (system : Equations) (z : Vector) where
  claim_unfit : (case : ℕ) (part : Part) (wide : Wide ℚ) (claim : Claim)
      → IsFirstFault system z claim.point [] claim.against (WideVerdict case part wide) → ClaimFits system z claim → ⊥
  claim_unfit case part wide claim h fit = first_unfit system z claim.point [] claim.against case part wide h fit

  module _ (claims : List Claim) (named other case later : ℕ) (part more : Part) (wide again : Wide ℚ)
      (a : IsClaimsFault system z claims (WideClaim named case part wide))
      (b : IsClaimsFault system z claims (WideClaim other later more again)) where
    same_wide_claim : WideClaim named case part wide ≡ WideClaim other later more again
    same_wide_claim =
        let items = same_item (ClaimFits system z) claims (λ c fault. IsFirstFault system z c.point [] c.against fault)
        (λ c fault. IsFirstFault system z c.point [] c.against fault) named other (WideVerdict case part wide)
        (WideVerdict later more again) (claim_unfit case part wide) (claim_unfit later more again) a b in
        let here = subst (λ (c : Claim). IsFirstFault system z c.point [] c.against (WideVerdict later more again)) (sym items.0) b.here in
        let same = same_refusal system z a.item.point [] a.item.against case later part more wide again a.here here in
        let names = items.1 in
        let cases = same.0 in
        let parts = same.1 in
        let wides = same.2 in
        cc

-- where a wide operation is named there is one
pub wide_claims_dont_fit : WideClaimsDontFit
wide_claims_dont_fit system z claims NoMemory n h fit = n refl
wide_claims_dont_fit system z claims (WideClaim named case part wide) n h fit =
    claim_unfit system z case part wide h.item h.here (fits_there (ClaimFits system z) claims h.number h.item h.listed fit)

-- vectors with the same bounds name the same wide operation
pub refusals_are_one : RefusalsAreOne
refusals_are_one system z w claims NoMemory again same points n m h k = absurd (n refl)
refusals_are_one system z w claims (WideClaim named case part wide) NoMemory same points n m h k = absurd (m refl)
refusals_are_one system z w claims (WideClaim named case part wide) (WideClaim other later more again) same points n m h k =
    let here = wide_stays (λ (claim : Claim). claim.point < system.points) (ClaimFits system z) (ClaimFits system w)
    (λ c fault. IsFirstFault system z c.point [] c.against fault) (λ c fault. IsFirstFault system w c.point [] c.against fault)
    (λ claim there fit. all_fit_stays system z w claim.point (λ r l. same claim.point r there l) [] claim.against fit)
    (λ claim fault there f. first_fault_stays system z w claim.point (λ r l. same claim.point r there l) [] claim.against fault f)
    claims named
    (WideVerdict case part wide) points h in
    same_wide_claim system w claims named other case later part more wide again here k
