use Rattle.std.proofs.Common.{◌≡◌, ◌∙◌, ◌*◌, ◌≤◌, List, true≢false, length, map, sym, subst}
use Rattle.std.specs.Prelude.{None, Err}
use Rattle.std.proofs.lemmas.List.{length-map}
use Rattle.std.proofs.lemmas.Result.{err_from_is_err_and}
use Rattle.flow_systems.specs.Equations.{Equations}
use Rattle.flow_systems.specs.View.{equations_of}
use Rattle.cert_types.specs.Certificates.{certificate_of, evidence_of, step_of}
use Rattle.theory_validity.specs.Certificates.{Certificate, after_steps, bounds_vector, needs}
use Rattle.theory_validity.specs.Steps.{start_vector}
use Rattle.cert_checker.specs.declared.fault.CheckFault.TheVariants.{Size}
use Rattle.cert_checker.specs.CheckEvents.{check_events, uppers_events}
use Rattle.cert_checker.specs.Events.{first_stop}
use Rattle.cert_checker.specs.Stands.{Stands}
use Rattle.cert_checker.specs.StepEvents.{steps_events}
use Rattle.cert_checker.proofs.events.Numbers.{stands_itself}
use Rattle.cert_checker.proofs.events.Ranges.{points_in_range}
use Rattle.cert_checker.proofs.events.Whole.{IsSized, whole_final, whole_size, whole_steps, whole_uppers}
use Rattle.cert_written.specs.declared.cert.Cert.{Cert}
use Rattle.cert_written.specs.declared.step.Step.{Step}
use Rattle.cert_written.specs.declared.upper.Upper.{Upper}
use Rattle.cert_fitted.specs.Checked.{EndsAt, IsFittedRun}
use Rattle.cert_fitted.specs.Fitted.{cert_for, step_for, uppers_for}
use Rattle.cert_fitted.specs.Needed.{guards_needed}
use Rattle.cert_fitted.specs.declared.checking.FittedFault.TheVariants.{Check}
use Rattle.cert_fitted.proofs.checking.Answered.{ends_same, fitted_fault, fitted_least, fitted_valid, run_like}
use Rattle.cert_fitted.proofs.checking.Pieces.{as_many}
use Rattle.cert_fitted.proofs.checking.check_fitted.Goals as goal

-- the certificate for which a written one stands
abbrev theirs : Equations → Cert → Certificate
theirs S cert = certificate_of (length S.template) (cert_for S cert)

-- as many bounds as there are unknowns, and at most as much written evidence as is needed
abbrev HasSize : Equations → Cert → List Upper → Type 0
HasSize S cert us = (length cert.bounds ≡ S.points * length S.template) × (length us ≤ length (needs S (bounds_vector S cert.bounds)))

long : (S : Equations) (cert : Cert) → length (theirs S cert).uppers ≡ length cert.uppers
long S cert =
    let counts = guards_needed S cert.bounds in
    length-map (uppers_for (length S.template) counts cert.uppers) evidence_of ∙ as_many (length S.template) counts cert.uppers

sized : (S : Equations) (cert : Cert) (us : List Upper) → us ≡ cert.uppers → HasSize S cert us → IsSized S (theirs S cert)
sized S cert us e h = (
  h.0,
  subst (λ n. n ≤ length (needs S (bounds_vector S cert.bounds))) (sym (long S cert))
      (subst (λ xs. length xs ≤ length (needs S (bounds_vector S cert.bounds))) e h.1),
)

unsized : (S : Equations) (cert : Cert) (us : List Upper) → us ≡ cert.uppers → IsSized S (theirs S cert) → HasSize S cert us
unsized S cert us e h = (
  h.0,
  subst (λ xs. length xs ≤ length (needs S (bounds_vector S cert.bounds))) (sym e)
      (subst (λ n. n ≤ length (needs S (bounds_vector S cert.bounds))) (long S cert) h.1),
)

-- ---- sizes
pub returns-then-not-has_size-clause-answer : goal.returns-then-not-has_size-clause-answer
returns-then-not-has_size-clause-answer c =
    let S = equations_of c.args.system.now in
    let cert = c.args.cert.now in
    whole_size S (theirs S cert) (λ h. true≢false
    (sym (c.has_size.ensures.1 (unsized S cert c.as_slice.result.now c.as_slice.ensures h)) ∙ c.if-not-has_size.true))

pub returns-then-not-has_size-clause-valid : goal.returns-then-not-has_size-clause-valid
returns-then-not-has_size-clause-valid c =
    let S = equations_of c.args.system.now in
    fitted_valid S (theirs S c.args.cert.now) (Err (Check Size)) (returns-then-not-has_size-clause-answer c)

pub returns-then-not-has_size-clause-fault : goal.returns-then-not-has_size-clause-fault
returns-then-not-has_size-clause-fault c =
    let S = equations_of c.args.system.now in
    fitted_fault S (theirs S c.args.cert.now) (Err (Check Size)) (returns-then-not-has_size-clause-answer c)

-- ---- steps
pub returns-in_err-check_steps-clause-answer : goal.returns-in_err-check_steps-clause-answer
returns-in_err-check_steps-clause-answer c =
    let S = equations_of c.args.system.now in
    let cert = c.args.cert.now in
    let size = sized S cert c.as_slice.result.now c.as_slice.ensures (c.has_size.ensures.0 c.if-not-has_size.false) in
    let f = c.in_err-check_steps.field-0.0 in
    let steps = λ (xs : List Step). steps_events S start_vector 0 (map (step_of (length S.template)) (map (step_for S) xs)) in
    let q = err_from_is_err_and c.from_residual.result c.from_residual.ensures.1 in
    rw (q.1, q.2) (ends_same (check_events S (theirs S cert)) (steps cert.steps) (λ g e. whole_steps S (theirs S cert) size g e) f
    (subst (λ xs. EndsAt (steps xs) f) c.as_slice-2.ensures c.in_err-check_steps.ensures.answer))

pub returns-in_err-check_steps-clause-valid : goal.returns-in_err-check_steps-clause-valid
returns-in_err-check_steps-clause-valid c =
    let S = equations_of c.args.system.now in
    fitted_valid S (theirs S c.args.cert.now) c.from_residual.result (returns-in_err-check_steps-clause-answer c)

pub returns-in_err-check_steps-clause-fault : goal.returns-in_err-check_steps-clause-fault
returns-in_err-check_steps-clause-fault c =
    let S = equations_of c.args.system.now in
    fitted_fault S (theirs S c.args.cert.now) c.from_residual.result (returns-in_err-check_steps-clause-answer c)

-- ---- the final vector
pub returns-in_err-compare-clause-answer : goal.returns-in_err-compare-clause-answer
returns-in_err-compare-clause-answer c =
    let S = equations_of c.args.system.now in
    let cert = c.args.cert.now in
    let rows = length S.template in
    let size = sized S cert c.as_slice.result.now c.as_slice.ensures (c.has_size.ensures.0 c.if-not-has_size.false) in
    let z = after_steps (map (step_of rows) (map (step_for S) cert.steps)) start_vector in
    let reached = subst (λ (xs : List Step). Stands S c.check_steps.new.scratch.base
    (after_steps (map (step_of rows) (map (step_for S) xs)) start_vector)) c.as_slice-2.ensures c.in_ok-check_steps.ensures.answer.0 in
    let none = subst (λ (xs : List Step). first_stop (steps_events S start_vector 0 (map (step_of rows) (map (step_for S) xs))) ≡ None)
    c.as_slice-2.ensures c.in_ok-check_steps.ensures.answer.1 in
    let q = err_from_is_err_and c.from_residual-in_err-compare.result c.from_residual-in_err-compare.ensures.1 in
    rw (q.1, q.2) (whole_final S (theirs S cert) size none c.in_err-compare.field-0.0
    (c.in_err-compare.ensures S z (bounds_vector S cert.bounds) reached (stands_itself S cert.bounds size.0)))

pub returns-in_err-compare-clause-valid : goal.returns-in_err-compare-clause-valid
returns-in_err-compare-clause-valid c =
    let S = equations_of c.args.system.now in
    fitted_valid S (theirs S c.args.cert.now) c.from_residual-in_err-compare.result (returns-in_err-compare-clause-answer c)

pub returns-in_err-compare-clause-fault : goal.returns-in_err-compare-clause-fault
returns-in_err-compare-clause-fault c =
    let S = equations_of c.args.system.now in
    fitted_fault S (theirs S c.args.cert.now) c.from_residual-in_err-compare.result (returns-in_err-compare-clause-answer c)

-- ---- evidence
pub returns-clause-answer : goal.returns-clause-answer
returns-clause-answer c =
    let S = equations_of c.args.system.now in
    let cert = c.args.cert.now in
    let rows = length S.template in
    let size = sized S cert c.as_slice.result.now c.as_slice.ensures (c.has_size.ensures.0 c.if-not-has_size.false) in
    let z = after_steps (map (step_of rows) (map (step_for S) cert.steps)) start_vector in
    let ends = bounds_vector S cert.bounds in
    let reached = subst (λ (xs : List Step). Stands S c.check_steps.new.scratch.base
    (after_steps (map (step_of rows) (map (step_for S) xs)) start_vector)) c.as_slice-2.ensures c.in_ok-check_steps.ensures.answer.0 in
    let none = subst (λ (xs : List Step). first_stop (steps_events S start_vector 0 (map (step_of rows) (map (step_for S) xs))) ≡ None)
    c.as_slice-2.ensures c.in_ok-check_steps.ensures.answer.1 in
    let final = (c.in_ok-compare.ensures S z ends reached (stands_itself S cert.bounds size.0)).1 in
    let counts = guards_needed S cert.bounds in
    let uppers = λ (us : List Upper). uppers_events S ends (needs S ends) (map evidence_of (uppers_for rows counts us)) in
    run_like (check_events S (theirs S cert)) (uppers cert.uppers) (λ r h. whole_uppers S (theirs S cert) size none final r h)
    c.check_uppers.result (subst (λ us. IsFittedRun (λ u. Unit {0}) (uppers us) c.check_uppers.result) c.as_slice-3.ensures
    c.check_uppers.ensures)

pub returns-clause-valid : goal.returns-clause-valid
returns-clause-valid c =
    let S = equations_of c.args.system.now in
    fitted_valid S (theirs S c.args.cert.now) c.check_uppers.result (returns-clause-answer c)

pub returns-clause-fault : goal.returns-clause-fault
returns-clause-fault c =
    let S = equations_of c.args.system.now in
    fitted_fault S (theirs S c.args.cert.now) c.check_uppers.result (returns-clause-answer c)

pub returns-clause-least : goal.returns-clause-least
returns-clause-least c =
    let S = equations_of c.args.system.now in
    fitted_least S (theirs S c.args.cert.now) (points_in_range c.args.system.now) c.check_uppers.result (returns-clause-answer c)
