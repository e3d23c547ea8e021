-- What exceeds exact work: an operation of the rounds, of the check of their certificate, or for claims and checks where they end, that is
-- wide; or a joint problem of the rounds that is too large.
use Rattle.std.specs.Prelude.{◌≡◌, ◌⊎◌, ◌≤◌, ℕ, List, Some}
use Rattle.lang_tree.specs.Tree.{Statements}
use Rattle.flow_edges.specs.Checks.{checks_of_program}
use Rattle.flow_edges.specs.declared.checked.CheckCases.{CheckCases}
use Rattle.flow_systems.specs.declared.spot.Part.{Part}
use Rattle.flow_systems.specs.declared.spot.Site.TheVariants.{Check as AtCheck, Claim as AtClaim}
use Rattle.flow_systems.specs.declared.spot.Spot.{Spot}
use Rattle.flow_systems.specs.declared.system.System.{System}
use Rattle.flow_systems.specs.Equations.{Equations, Vector}
use Rattle.flow_systems.specs.View.{equations_of}
use Rattle.cert_checker.specs.CheckEvents.{check_events}
use Rattle.cert_checker.specs.Events.{first_stop}
use Rattle.cert_checker.specs.declared.fault.CheckFault.TheVariants.{Wide}
use Rattle.solve_rounds.specs.declared.solution.Solved.{Solved}
use Rattle.solve_rounds.specs.Halts.{IsLargeHalt, IsSpotOf}
use Rattle.solve_rounds.specs.Solutions.{IsSolved, made_certificate}
use Rattle.ask_claims.specs.AllVerdicts.{IsClaimsFault}
use Rattle.ask_claims.specs.declared.claim.Claim.{Claim}
use Rattle.ask_claims.specs.declared.outcome.ClaimsFault.TheVariants.{Wide as WideFor}
use Rattle.ask_checks.specs.Verdicts.{IsChecksFault}
use Rattle.ask_checks.specs.declared.outcome.ChecksFault.TheVariants.{Wide as WideOn}
use Rattle.ask_words.specs.declared.request.Policy.{Policy}
use Rattle.ask_words.specs.declared.request.Purpose.{Purpose}
use Rattle.ask_words.specs.declared.request.Purpose.TheVariants.{Report, Certificate}
use Rattle.top_status.specs.declared.status.Excess.{Excess}
use Rattle.top_status.specs.declared.status.Excess.TheVariants as excess
use Rattle.top_texts.specs.ClaimTexts.{AreClaimsOf}
use Rattle.top_texts.specs.Policies.{rule_of}
use Rattle.top_texts.specs.Rounds.{HasRounds}
use Rattle.top_texts.specs.Texts.{IsAnalysed, Program}

-- the spot is that of a wide sum of the check of the certificate that the rounds make
pub record IsCertifySpot (system : System) (policy : Policy) (limit : ℕ) (spot : Spot) : Type 0 where
  pub solved : Solved
  pub is_solved : IsSolved system (rule_of policy) limit solved
  pub stop : first_stop (check_events (equations_of system) (made_certificate system solved)) ≡ Some (Wide spot)

-- the spots of an analysis: those of the composition and of the rounds, and for a certificate those of its check too
abbrev pub HasSpot : Purpose → System → Policy → ℕ → Spot → Type 0
HasSpot Report system policy limit spot = IsSpotOf system (rule_of policy) limit spot
HasSpot Certificate system policy limit spot = IsSpotOf system (rule_of policy) limit spot ⊎ IsCertifySpot system policy limit spot

-- what exceeds exact work in an analysis: such a spot, or the cells of the joint problem of a turn
abbrev pub HasExcess : Purpose → System → Policy → ℕ → Excess → Type 0
HasExcess purpose system policy limit (excess.Wide spot) = HasSpot purpose system policy limit spot
HasExcess purpose system policy limit (excess.Large cells) = IsLargeHalt system (rule_of policy) limit cells

-- the spot is that of the first operation for claims that is wide at a vector, in the problem of this case of this claim; it is in no round
pub record IsWideFor (system : Equations) (vector : Vector) (claims : List Claim) (spot : Spot) : Type 0 where
  pub claim : ℕ
  pub case : ℕ
  pub part : Part
  pub round : spot.round ≡ 0
  pub site : spot.site ≡ AtClaim claim case part
  pub wide : IsClaimsFault system vector claims (WideFor claim case part spot.wide)

-- the improvements end within the limit, and the spot is that of a wide operation for the claims of a text at the vector where they end
pub record IsClaimSpot (given : List ℕ) (system : System) (policy : Policy) (limit : ℕ) (spot : Spot) : Type 0 where
  pub rounds : ℕ
  pub within : rounds ≤ limit
  pub vector : Vector
  pub has_rounds : HasRounds system policy rounds vector
  pub claims : List Claim
  pub claims_are : AreClaimsOf given system.flow.names system.flow.points claims
  pub wide : IsWideFor (equations_of system) vector claims spot

-- the spot is that of the first operation for checks that is wide at a vector, in the problem of this case where this check stands on this
-- edge; it is in no round
pub record IsWideOn (system : Equations) (vector : Vector) (checks : List CheckCases) (spot : Spot) : Type 0 where
  pub check : ℕ
  pub edge : ℕ
  pub case : ℕ
  pub part : Part
  pub round : spot.round ≡ 0
  pub site : spot.site ≡ AtCheck check edge case part
  pub wide : IsChecksFault system vector checks (WideOn check edge case part spot.wide)

-- the improvements end within the limit, and the spot is that of a wide operation for the checks of a program at the vector where
-- they end
pub record IsCheckedSpot (program : Program) (system : System) (policy : Policy) (limit : ℕ) (spot : Spot) : Type 0 where
  pub rounds : ℕ
  pub within : rounds ≤ limit
  pub vector : Vector
  pub has_rounds : HasRounds system policy rounds vector
  pub names : List (List ℕ)
  pub body : Statements
  pub analysed : IsAnalysed program names body
  pub wide : IsWideOn (equations_of system) vector (checks_of_program body) spot
