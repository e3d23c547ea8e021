use Rattle.std.proofs.Common.{◌≡◌, ◌∙◌, ◌*◌, ◌≤◌, List, true≢false, length, map, sym, subst}
use Rattle.std.specs.Prelude.{Some, None, Err}
use Rattle.std.proofs.lemmas.Result.{err_from_is_err_and}
use Rattle.base_numbers.specs.Extended.{Ext}
use Rattle.flow_systems.specs.Equations.{Equations}
use Rattle.flow_systems.specs.View.{equations_of}
use Rattle.cert_types.specs.declared.upper.Upper.{Upper}
use Rattle.cert_types.specs.Certificates.{step_of, evidence_of, certificate_of}
use Rattle.theory_validity.specs.Steps.{start_vector}
use Rattle.theory_validity.specs.Certificates.{needs, after_steps, bounds_vector}
use Rattle.cert_checker.specs.declared.fault.CheckFault.TheVariants.{Size}
use Rattle.cert_checker.specs.Events.{IsRun, first_stop}
use Rattle.cert_checker.specs.StepEvents.{steps_events}
use Rattle.cert_checker.specs.CheckEvents.{uppers_events}
use Rattle.cert_checker.specs.Stands.{Stands}
use Rattle.cert_checker.proofs.events.Whole.{whole_size, whole_steps, whole_final, whole_uppers, size_to, size_from, run_valid}
use Rattle.cert_checker.proofs.events.Whole.{run_fault, run_least}
use Rattle.cert_checker.proofs.events.Ranges.{points_in_range}
use Rattle.cert_checker.proofs.events.Numbers.{stands_itself}
use Rattle.cert_checker.proofs.certificate.check.Goals as goal

-- ---- sizes
-- as much evidence as in a list that is the same
counted : (S : Equations) (bounds : List Ext) {xs ys : List Upper} → xs ≡ ys → (length bounds ≡ S.points * length S.template)
    × (length xs ≤ length (needs S (bounds_vector S bounds))) → (length bounds ≡ S.points * length S.template)
    × (length ys ≤ length (needs S (bounds_vector S bounds)))
counted S bounds e h = (h.0, subst (λ us. length us ≤ length (needs S (bounds_vector S bounds))) e h.1)

pub returns-then-not-has_size-clause-answer : goal.returns-then-not-has_size-clause-answer
returns-then-not-has_size-clause-answer c =
    let S = equations_of c.args.system.now in
    let rows = length c.args.system.now.template in
    whole_size S (certificate_of rows c.args.cert.now) (λ h. true≢false
    (sym (c.has_size.ensures.1 (counted S c.args.cert.now.bounds (sym c.as_slice.ensures) (size_from S rows c.args.cert.now h)))
    ∙ c.if-not-has_size.true))

pub returns-then-not-has_size-clause-valid : goal.returns-then-not-has_size-clause-valid
returns-then-not-has_size-clause-valid c = run_valid (equations_of c.args.system.now)
    (certificate_of (length c.args.system.now.template) c.args.cert.now) (Err Size) (returns-then-not-has_size-clause-answer c)

pub returns-then-not-has_size-clause-fault : goal.returns-then-not-has_size-clause-fault
returns-then-not-has_size-clause-fault c = run_fault (equations_of c.args.system.now)
    (certificate_of (length c.args.system.now.template) c.args.cert.now) (Err Size) (returns-then-not-has_size-clause-answer c)

-- ---- steps
pub returns-in_err-check_steps-clause-answer : goal.returns-in_err-check_steps-clause-answer
returns-in_err-check_steps-clause-answer c =
    let S = equations_of c.args.system.now in
    let rows = length c.args.system.now.template in
    let q = err_from_is_err_and c.from_residual.result c.from_residual.ensures.1 in
    rw (q.1, q.2) (whole_steps S (certificate_of rows c.args.cert.now)
    (size_to S rows c.args.cert.now (counted S c.args.cert.now.bounds c.as_slice.ensures (c.has_size.ensures.0 c.if-not-has_size.false)))
    c.in_err-check_steps.field-0.0
    (subst (λ xs. first_stop (steps_events S start_vector 0 (map (step_of rows) xs)) ≡ Some c.in_err-check_steps.field-0.0)
    c.as_slice-2.ensures c.in_err-check_steps.ensures.answer))

pub returns-in_err-check_steps-clause-valid : goal.returns-in_err-check_steps-clause-valid
returns-in_err-check_steps-clause-valid c = run_valid (equations_of c.args.system.now)
    (certificate_of (length c.args.system.now.template) c.args.cert.now) c.from_residual.result (returns-in_err-check_steps-clause-answer c)

pub returns-in_err-check_steps-clause-fault : goal.returns-in_err-check_steps-clause-fault
returns-in_err-check_steps-clause-fault c = run_fault (equations_of c.args.system.now)
    (certificate_of (length c.args.system.now.template) c.args.cert.now) c.from_residual.result (returns-in_err-check_steps-clause-answer c)

-- ---- the final vector
pub returns-in_err-compare-clause-answer : goal.returns-in_err-compare-clause-answer
returns-in_err-compare-clause-answer c =
    let S = equations_of c.args.system.now in
    let rows = length c.args.system.now.template in
    let size = counted S c.args.cert.now.bounds c.as_slice.ensures (c.has_size.ensures.0 c.if-not-has_size.false) in
    let z = after_steps (map (step_of rows) c.args.cert.now.steps) start_vector in
    let reached = subst (λ xs. Stands S c.check_steps.new.scratch.base (after_steps (map (step_of rows) xs) start_vector))
    c.as_slice-2.ensures c.in_ok-check_steps.ensures.answer.0 in
    let none = subst (λ xs. first_stop (steps_events S start_vector 0 (map (step_of rows) xs)) ≡ None) c.as_slice-2.ensures
    c.in_ok-check_steps.ensures.answer.1 in
    let q = err_from_is_err_and c.from_residual-in_err-compare.result c.from_residual-in_err-compare.ensures.1 in
    rw (q.1, q.2) (whole_final S (certificate_of rows c.args.cert.now) (size_to S rows c.args.cert.now size) none c.in_err-compare.field-0.0
    (c.in_err-compare.ensures S z (bounds_vector S c.args.cert.now.bounds) reached (stands_itself S c.args.cert.now.bounds size.0)))

pub returns-in_err-compare-clause-valid : goal.returns-in_err-compare-clause-valid
returns-in_err-compare-clause-valid c = run_valid (equations_of c.args.system.now)
    (certificate_of (length c.args.system.now.template) c.args.cert.now) c.from_residual-in_err-compare.result
    (returns-in_err-compare-clause-answer c)

pub returns-in_err-compare-clause-fault : goal.returns-in_err-compare-clause-fault
returns-in_err-compare-clause-fault c = run_fault (equations_of c.args.system.now)
    (certificate_of (length c.args.system.now.template) c.args.cert.now) c.from_residual-in_err-compare.result
    (returns-in_err-compare-clause-answer c)

-- ---- evidence
pub returns-clause-answer : goal.returns-clause-answer
returns-clause-answer c =
    let S = equations_of c.args.system.now in
    let rows = length c.args.system.now.template in
    let size = counted S c.args.cert.now.bounds c.as_slice.ensures (c.has_size.ensures.0 c.if-not-has_size.false) in
    let z = after_steps (map (step_of rows) c.args.cert.now.steps) start_vector in
    let ends = bounds_vector S c.args.cert.now.bounds in
    let stands = stands_itself S c.args.cert.now.bounds size.0 in
    let reached = subst (λ xs. Stands S c.check_steps.new.scratch.base (after_steps (map (step_of rows) xs) start_vector))
    c.as_slice-2.ensures c.in_ok-check_steps.ensures.answer.0 in
    let none = subst (λ xs. first_stop (steps_events S start_vector 0 (map (step_of rows) xs)) ≡ None) c.as_slice-2.ensures
    c.in_ok-check_steps.ensures.answer.1 in
    whole_uppers S (certificate_of rows c.args.cert.now) (size_to S rows c.args.cert.now size) none
    (c.in_ok-compare.ensures S z ends reached stands).1 c.check_uppers.result
    (subst (λ us. IsRun (λ u. Unit {0}) (uppers_events S ends (needs S ends) (map evidence_of us)) c.check_uppers.result)
    c.as_slice-3.ensures (c.check_uppers.ensures ends stands))

pub returns-clause-valid : goal.returns-clause-valid
returns-clause-valid c = run_valid (equations_of c.args.system.now) (certificate_of (length c.args.system.now.template) c.args.cert.now)
    c.check_uppers.result (returns-clause-answer c)

pub returns-clause-fault : goal.returns-clause-fault
returns-clause-fault c = run_fault (equations_of c.args.system.now) (certificate_of (length c.args.system.now.template) c.args.cert.now)
    c.check_uppers.result (returns-clause-answer c)

pub returns-clause-least : goal.returns-clause-least
returns-clause-least c = run_least (equations_of c.args.system.now) (certificate_of (length c.args.system.now.template) c.args.cert.now)
    (points_in_range c.args.system.now) c.check_uppers.result (returns-clause-answer c)
