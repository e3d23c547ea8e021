-- Laws: what a proved claim says of runs, what an open one says, and that verdicts and refusals are determined.
use Rattle.std.specs.Prelude.{◌≡◌, ◌≢◌, ℕ, ℤ, List, [], Some, false, length, slice_get, Contains, IsTrue}
use Rattle.lang_tree.specs.Tree.{Condition, Statements}
use Rattle.lang_tree.specs.Cases.{cases_of}
use Rattle.lang_tree.specs.View.{condition_of}
use Rattle.lang_tree.specs.Runs.{Configuration, IsRun, IsAt}
use Rattle.flow_systems.specs.States.{RationalState}
use Rattle.flow_systems.specs.SystemLimits.{is_over}
use Rattle.flow_systems.specs.Equations.{Equations, Vector, PostSolution}
use Rattle.flow_systems.specs.Solutions.{equations_of_program}
use Rattle.flow_systems.specs.SolutionLaws.{IsSame}
use Rattle.ask_claims.specs.declared.claim.Claim.{Claim}
use Rattle.ask_verdicts.specs.declared.outcome.Verdict.{Verdict}
use Rattle.ask_verdicts.specs.declared.outcome.Verdict.TheVariants.{Proved, Open}
use Rattle.ask_claims.specs.declared.outcome.ClaimsFault.{ClaimsFault}
use Rattle.ask_claims.specs.declared.outcome.ClaimsFault.TheVariants.{NoMemory}
use Rattle.ask_verdicts.specs.Breaking.{NoneOpen}
use Rattle.ask_claims.specs.AllVerdicts.{AreVerdicts, BreaksAgainst, ClaimsFit, IsClaimsFault}
use Rattle.ask_claims.specs.Claims.{AreAtPoints}
use Rattle.ask_claims.specs.Truth.{IsTrueAt}

-- where no state that fits a post-solution of a program's system, whose rows are over its variables, at a point passes a case against a
-- condition, the condition is true at every configuration at this point in every run
abbrev pub ProvedClaimsHold : Type 0
ProvedClaimsHold = (variables : ℕ) (body : Statements) (template : List (List ℤ)) (v : Vector) (p : ℕ) (c : Condition) →
    IsTrue (is_over variables template) → PostSolution (equations_of_program variables body template) v →
    NoneOpen (equations_of_program variables body template) v p [] (cases_of false c) (length (cases_of false c)) →
    (run : List Configuration) (now : Configuration) → IsRun variables body run → Contains run now → IsAt now p → IsTrueAt c now.state

-- the state of an open claim fits the vector at the claim's point, and passes all guards of one of the cases against it
abbrev pub OpenStatesBreak : Type 0
OpenStatesBreak = (system : Equations) (z : Vector) (claims : List Claim) (verdicts : List Verdict) (k : ℕ) (claim : Claim)
    (x : RationalState) →
    AreVerdicts system z claims verdicts → slice_get claims k ≡ Some claim → slice_get verdicts k ≡ Some (Open x) →
    BreaksAgainst system z claim x

-- vectors with the same bounds give claims at a system's points one list of verdicts
abbrev pub VerdictsAreOne : Type 0
VerdictsAreOne = (system : Equations) (z w : Vector) (claims : List Claim) (verdicts again : List Verdict) → IsSame system z w
    → AreAtPoints system claims →
    AreVerdicts system z claims verdicts → AreVerdicts system w claims again → verdicts ≡ again

-- where a verdict on a list of claims at a post-solution of a program's system, whose rows are over its variables, is that a claim is
-- proved, the claim's condition is true at every configuration at its point in every run
abbrev pub ProvedVerdictsHold : Type 0
ProvedVerdictsHold = (variables : ℕ) (body : Statements) (template : List (List ℤ)) (v : Vector) (claims : List Claim)
    (verdicts : List Verdict)
    (k : ℕ) (claim : Claim) →
    IsTrue (is_over variables template) → PostSolution (equations_of_program variables body template) v →
    AreVerdicts (equations_of_program variables body template) v claims verdicts →
    slice_get claims k ≡ Some claim → slice_get verdicts k ≡ Some Proved → claim.against ≡ cases_of false (condition_of claim.cond) →
    (run : List Configuration) (now : Configuration) → IsRun variables body run → Contains run now → IsAt now claim.point →
    IsTrueAt (condition_of claim.cond) now.state

-- a wide operation is named only where there is one
abbrev pub WideClaimsDontFit : Type 0
WideClaimsDontFit = (system : Equations) (z : Vector) (claims : List Claim) (fault : ClaimsFault) → fault ≢ NoMemory →
    IsClaimsFault system z claims fault → ¬ (ClaimsFit system z claims)

-- and it is the only one that is named, by all vectors with the same bounds
abbrev pub RefusalsAreOne : Type 0
RefusalsAreOne = (system : Equations) (z w : Vector) (claims : List Claim) (fault again : ClaimsFault) → IsSame system z w
    → AreAtPoints system claims →
    fault ≢ NoMemory → again ≢ NoMemory → IsClaimsFault system z claims fault → IsClaimsFault system w claims again → fault ≡ again
