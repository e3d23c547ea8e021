-- The verdicts on a list of claims.
use Rattle.std.proofs.Common.{◌≡◌, ℕ, ◌<◌, false, List, [], length, refl, subst}
use Rattle.std.specs.Prelude.{Some, slice_get}
use Rattle.lang_tree.specs.declared.form.Form.{Form}
use Rattle.lang_tree.specs.View.{condition_of}
use Rattle.lang_tree.specs.Cases.{cases_of}
use Rattle.flow_systems.specs.Equations.{Equations, Vector}
use Rattle.flow_systems.specs.Solutions.{equations_of_program}
use Rattle.ask_verdicts.specs.Breaking.{NoneOpen}
use Rattle.ask_verdicts.specs.declared.outcome.Verdict.{Verdict}
use Rattle.ask_verdicts.specs.declared.outcome.Verdict.TheVariants.{Proved, Open}
use Rattle.ask_verdicts.proofs.lists.Judged.{zip_at}
use Rattle.ask_verdicts.proofs.lists.Once.{same_answers, answers_stay}
use Rattle.ask_verdicts.proofs.verdicts.Once.{breaks_some, same_verdict}
use Rattle.ask_verdicts.proofs.verdicts.SameBounds.{verdict_stays}
use Rattle.ask_claims.specs.AllVerdicts.{AreVerdicts, IsClaimVerdict}
use Rattle.ask_claims.specs.Laws.{OpenStatesBreak, ProvedVerdictsHold, VerdictsAreOne}
use Rattle.ask_claims.specs.declared.claim.Claim.{Claim}
use Rattle.ask_claims.proofs.laws.Claims.{claims_hold}

-- vectors with the same bounds give claims the same verdicts
pub verdicts_are_one : VerdictsAreOne
verdicts_are_one system z w claims verdicts again same points a b =
    same_answers (IsClaimVerdict system w) (λ claim x y. same_verdict system w claim.point [] claim.against x y) claims verdicts again
    (answers_stay (λ (claim : Claim). claim.point < system.points) (IsClaimVerdict system z) (IsClaimVerdict system w)
    (λ claim verdict there. verdict_stays system z w claim.point (λ r l. same claim.point r there l) [] claim.against verdict)
    claims verdicts
    points a) b

-- the verdict at a place is one on the claim there
pub verdict_at : (system : Equations) (z : Vector) (claims : List Claim) (verdicts : List Verdict) (k : ℕ) (claim : Claim)
    (verdict : Verdict) →
    AreVerdicts system z claims verdicts → slice_get claims k ≡ Some claim → slice_get verdicts k ≡ Some verdict
    → IsClaimVerdict system z claim verdict
verdict_at system z claims verdicts k claim verdict = zip_at (IsClaimVerdict system z) claims verdicts k claim verdict

-- the state of an open claim breaks one of the cases against it
pub open_breaks : OpenStatesBreak
open_breaks system z claims verdicts k claim x a e f =
    breaks_some system z claim.point [] claim.against x (verdict_at system z claims verdicts k claim (Open x) a e f).state

-- the condition of a proved claim is true at its point in every run
pub proved_hold : ProvedVerdictsHold
proved_hold variables body template v claims verdicts k claim over post a e f against run now is_run is_in is_at =
    let system = equations_of_program variables body template in
    let none = (verdict_at system v claims verdicts k claim Proved a e f).proved.0 refl in
    let stated : NoneOpen system v claim.point [] (cases_of false (condition_of claim.cond))
    (length (cases_of false (condition_of claim.cond))) =
    subst (λ (cases : List (List Form)). NoneOpen system v claim.point [] cases (length cases)) against none in
    claims_hold variables body template v claim.point (condition_of claim.cond) over post stated run now is_run is_in is_at
