use Rattle.std.proofs.Common.{◌≡◌, List, length}
use Rattle.std.specs.Prelude.{Some, None, Result, Ok, Err, MatchResult}
use Rattle.flow_systems.specs.Equations.{Equations, Vector}
use Rattle.flow_systems.specs.View.{equations_of}
use Rattle.cert_types.specs.Certificates.{step_of}
use Rattle.theory_validity.specs.Steps.{after_step}
use Rattle.cert_checker.specs.declared.fault.CheckFault.{CheckFault}
use Rattle.cert_checker.specs.declared.scratch.Scratch.{Scratch}
use Rattle.cert_checker.specs.Events.{Event, IsRun, first_stop}
use Rattle.cert_checker.specs.Rooms.{IsAt}
use Rattle.cert_checker.specs.Stands.{Stands}
use Rattle.cert_checker.specs.StepEvents.{step_events}
use Rattle.cert_checker.proofs.steps.take_step.Goals as goal

-- where both vectors of a scratch are this one, it is at this vector
at_both : (S : Equations) (scratch : Scratch) (z : Vector) (events : List Event) (result : Result (Unit {0}) CheckFault)
    → MatchResult result (λ u. Stands S scratch.base z × Stands S scratch.next z × (first_stop events ≡ None))
    (λ fault. first_stop events ≡ Some fault) → IsRun (λ u. IsAt S scratch z) events result
at_both S scratch z events (Ok u) h = (record { base = h.0; next = h.1 }, h.2)
at_both S scratch z events (Err f) h = h

pub returns-clause-answer : goal.returns-clause-answer
returns-clause-answer c = λ z h.
    let S = equations_of c.args.system.now in
    let theirs = step_of (length S.template) c.args.step.now in
    at_both S (record { base = c.take.new.base; next = c.take.new.next; rates = c.take.new.rates }) (after_step theirs z)
    (step_events S z c.args.number theirs) c.take.result (c.take.ensures.taken z h.base h.next)
