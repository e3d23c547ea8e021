use Rattle.std.proofs.Common.{refl, rules, subst}
use Rattle.flow_systems.specs.View.{equations_of}
use Rattle.cert_checker.specs.CheckEvents.{check_events}
use Rattle.cert_fitted.specs.Checked.{EndsAt}
use Rattle.cert_fitted.specs.Fitted.{cert_for}
use Rattle.top_texts.specs.Checks.{theirs}
use Rattle.top_texts.specs.Outcomes.{IsUnaccepted}
use Rattle.top_texts.proofs.check.accept.accept_written.Goals as goal

pub returns-in_err-paths-clause-err : goal.returns-in_err-paths-clause-err
returns-in_err-paths-clause-err c =
    let system = equations_of c.args.system.now in
    let h : IsUnaccepted system (theirs (cert_for system c.args.cert.now)) c.in_err-paths.field-0.0 =
    c.in_err-paths.ensures.err (theirs (cert_for system c.args.cert.now)) in
    search (rules, h)

pub returns-in-Ok-clause-valid : goal.returns-in-Ok-clause-valid
returns-in-Ok-clause-valid c = ((c.in-Ok.ensures.valid (λ e. cc)).0 refl).0

pub returns-in-Ok-clause-narrow : goal.returns-in-Ok-clause-narrow
returns-in-Ok-clause-narrow c = record {
  composition = c.in_ok-paths.ensures.narrow;
  sums = ((c.in-Ok.ensures.valid (λ e. cc)).0 refl).1;
}

pub returns-in-Err-Check-clause-err : goal.returns-in-Err-Check-clause-err
returns-in-Err-Check-clause-err c =
    let system = equations_of c.args.system.now in
    let certificate = theirs (cert_for system c.args.cert.now) in
    c.check_refusal.ensures system certificate c.in_ok-paths.ensures.narrow
    (subst (EndsAt (check_events system certificate)) c.in-Err-Check.field-0-is c.in-Err-Check.ensures.answer)
