use Rattle.std.proofs.Common.{◌≡◌, ◌↔◌, [], ◌∷◌, Some, None, subst}
use Rattle.std.specs.Prelude.{IsTrue}
use Rattle.std.proofs.lemmas.Result.{err_from_is_err_and}
use Rattle.flow_systems.specs.declared.spot.Site.{Site}
use Rattle.base_fractions.specs.Extended.{extended}
use Rattle.cert_types.specs.Certificates.{step_of}
use Rattle.theory_validity.specs.Faults.{TraceFault, LowFault}
use Rattle.cert_checker.specs.Events.{Test, decided, first_stop}
use Rattle.cert_checker.specs.StepEvents.{at_item, IsRaised, dec_raised}
use Rattle.cert_checker.proofs.following.Traces.{stop_sooner}
use Rattle.cert_checker.proofs.fault.Tests.{ensured, run_after, found_by, loses, finds}
use Rattle.cert_checker.proofs.first_pass.ensure_raised.Goals as goal

pub returns-in_err-value : goal.returns-in_err-value
returns-in_err-value c = λ x events ans.
    let r = err_from_is_err_and c.from_residual.result c.from_residual.ensures.1 in
    let e = c.in_err-value.field-0.0 in
    let wrong = TraceFault c.args.number c.args.k in
    let last = dec_raised (step_of 1 c.args.step.now).kind (extended c.args.bound) c.args.to x in
    let stopped = found_by x events c.args.followed c.item_site.result wrong (loses e) ans c.in_err-value.ensures in
    let at = subst (λ (s : Site). first_stop (events s wrong) ≡ Some e) c.item_site.ensures stopped in
    rw (r.1, r.2) (stop_sooner (events (at_item c.args.number c.args.k) wrong) (Test (decided last) (LowFault c.args.number c.args.k) ∷ [])
    e at)

pub returns : goal.returns
returns c = λ x events ans.
    let v = c.in_ok-value.value in
    let kind = (step_of 1 c.args.step.now).kind in
    let wrong = TraceFault c.args.number c.args.k in
    let low = LowFault c.args.number c.args.k in
    let last = dec_raised kind (extended c.args.bound) c.args.to x in
    let found = found_by x events c.args.followed c.item_site.result wrong (finds v) ans c.in_ok-value.ensures in
    let at = subst (λ (s : Site). first_stop (events s wrong) ≡ None) c.item_site.ensures found.1 in
    let raised = subst (λ y. IsTrue c.is_raised.result ↔ IsRaised kind (extended c.args.bound) c.args.to y) found.0 c.is_raised.ensures in
    run_after (λ u. Unit {0}) (events (at_item c.args.number c.args.k) wrong) (Test (decided last) low ∷ []) c.ensure.result at
    (ensured last c.is_raised.result low c.ensure.result raised c.ensure.ensures.passed c.ensure.ensures.fault)
