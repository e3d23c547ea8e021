use Rattle.std.proofs.Common.{[], ◌∷◌, length, refl}
use Rattle.std.proofs.lemmas.Result.{err_from_is_err_and}
use Rattle.flow_systems.specs.View.{equations_of}
use Rattle.cert_types.specs.Certificates.{step_of}
use Rattle.theory_validity.specs.Faults.{TraceFault, dec_named}
use Rattle.cert_checker.specs.Events.{Test, decided}
use Rattle.cert_checker.specs.Items.{item_at, earlier_items}
use Rattle.cert_checker.specs.StepEvents.{first_events, low_events}
use Rattle.cert_checker.proofs.following.Traces.{stop_sooner}
use Rattle.cert_checker.proofs.fault.Tests.{ensured, run_after, goes_on, ends_with}
use Rattle.cert_checker.proofs.first_pass.test_item.Goals as goal

pub test_low-requires-clause-placed : goal.test_low-requires-clause-placed
test_low-requires-clause-placed c = (c.is_named.ensures.0 (c.in_ok-ensure.ensures.passed.0 refl)).0

pub returns-in_err-ensure : goal.returns-in_err-ensure
unfolding first_events
returns-in_err-ensure c = λ z h.
    let r = err_from_is_err_and c.from_residual.result c.from_residual.ensures.1 in
    let S = equations_of c.args.system.now in
    let step = step_of (length S.template) c.args.step.now in
    let item = item_at (length S.template) c.args.step.now c.args.k in
    let wrong = TraceFault c.args.number c.args.k in
    let d = dec_named step.kind S (earlier_items step.items c.args.k) item in
    let e = c.in_err-ensure.field-0.0 in
    rw (r.1, r.2) (stop_sooner (Test (decided d) wrong ∷ []) (low_events step.kind S z c.args.number c.args.k item) e
    (ensured d c.is_named.result wrong (ends_with e) c.is_named.ensures c.in_err-ensure.ensures.passed c.in_err-ensure.ensures.fault))

pub returns : goal.returns
unfolding first_events
returns c = λ z h.
    let S = equations_of c.args.system.now in
    let step = step_of (length S.template) c.args.step.now in
    let item = item_at (length S.template) c.args.step.now c.args.k in
    let wrong = TraceFault c.args.number c.args.k in
    let d = dec_named step.kind S (earlier_items step.items c.args.k) item in
    let passed = ensured d c.is_named.result wrong goes_on c.is_named.ensures c.in_ok-ensure.ensures.passed tt in
    run_after (λ u. Unit {0}) (Test (decided d) wrong ∷ []) (low_events step.kind S z c.args.number c.args.k item) c.test_low.result
    passed.1 (c.test_low.ensures z h)
