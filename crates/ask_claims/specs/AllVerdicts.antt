-- Which verdicts are given on a list of claims at a vector, and which fault. The place of a claim is its point, with no actions before.
use Rattle.std.specs.Prelude.{List, [], length}
use Rattle.std.specs.List.{All, AllZip}
use Rattle.flow_systems.specs.States.{RationalState}
use Rattle.flow_systems.specs.Equations.{Equations, Vector}
use Rattle.ask_verdicts.specs.Lists.{IsFirstWide}
use Rattle.ask_verdicts.specs.Breaking.{BreaksSome, NoneOpen}
use Rattle.ask_verdicts.specs.Verdicts.{IsVerdict, AllFit, IsFirstFault}
use Rattle.ask_verdicts.specs.declared.outcome.Verdict.{Verdict}
use Rattle.ask_verdicts.specs.declared.outcome.VerdictFault.TheVariants.{Wide as WideVerdict}
use Rattle.ask_claims.specs.declared.claim.Claim.{Claim}
use Rattle.ask_claims.specs.declared.outcome.ClaimsFault.{ClaimsFault}
use Rattle.ask_claims.specs.declared.outcome.ClaimsFault.TheVariants.{Wide, NoMemory}

-- no state that fits the vector at the claim's point passes a case against the claim
abbrev pub NoneAgainst : Equations → Vector → Claim → Type 0
NoneAgainst system z claim = NoneOpen system z claim.point [] claim.against (length claim.against)

-- this state fits the vector at the claim's point, and passes a case against the claim
abbrev pub BreaksAgainst : Equations → Vector → Claim → RationalState → Type 0
BreaksAgainst system z claim x = BreaksSome system z claim.point [] claim.against x

-- the verdict on a claim: proved exactly where there is no such state, and else with that of the first case which a state breaks
abbrev pub IsClaimVerdict : Equations → Vector → Claim → Verdict → Type 0
IsClaimVerdict system z claim verdict = IsVerdict system z claim.point [] claim.against verdict

-- one verdict for each claim, in order
abbrev pub AreVerdicts : Equations → Vector → List Claim → List Verdict → Type 0
AreVerdicts system z claims verdicts = AllZip (IsClaimVerdict system z) claims verdicts

-- no operation for a claim is wide, up to the end of its first problem that isn't empty
abbrev pub ClaimFits : Equations → Vector → Claim → Type 0
ClaimFits system z claim = AllFit system z claim.point [] claim.against

-- none for any claim
abbrev pub ClaimsFit : Equations → Vector → List Claim → Type 0
ClaimsFit system z claims = All (ClaimFits system z) claims

-- a fault names the first wide operation with its claim and its case; want of memory may come at any time
abbrev pub IsClaimsFault : Equations → Vector → List Claim → ClaimsFault → Type 0
IsClaimsFault system z claims (Wide claim case part wide) =
    IsFirstWide (ClaimFits system z) (λ c fault. IsFirstFault system z c.point [] c.against fault) claims claim (WideVerdict case part wide)
IsClaimsFault system z claims NoMemory = Unit {0}
