use Rattle.std.proofs.Common.{◌≡◌, length, rules, subst}
use Rattle.std.specs.Prelude.{Some}
use Rattle.flow_systems.specs.View.{equations_of}
use Rattle.cert_types.specs.Certificates.{certificate_of}
use Rattle.cert_checker.specs.CheckEvents.{check_events}
use Rattle.cert_checker.specs.Events.{first_stop}
use Rattle.top_texts.specs.Checks.{theirs}
use Rattle.top_texts.specs.Outcomes.{IsUnaccepted}
use Rattle.top_texts.proofs.check.accept.accept.Goals as goal

pub returns-in_err-paths-clause-err : goal.returns-in_err-paths-clause-err
returns-in_err-paths-clause-err c =
    let h : IsUnaccepted (equations_of c.args.system.now) (theirs c.args.cert.now) c.in_err-paths.field-0.0 =
    c.in_err-paths.ensures.err (theirs c.args.cert.now) in
    search (rules, h)

pub returns-clause-err : goal.returns-clause-err
returns-clause-err c =
    c.check_refusal.ensures (equations_of c.args.system.now) (theirs c.args.cert.now) c.in_ok-paths.ensures.narrow
    (subst (λ rows. first_stop (check_events (equations_of c.args.system.now) (certificate_of (length rows) c.args.cert.now))
    ≡ Some c.in-Err.fault) c.requires.rows c.in-Err.ensures.answer)
