use Rattle.std.proofs.Common.{◌≡◌, length, map, drop}
use Rattle.flow_systems.specs.Equations.{Vector}
use Rattle.flow_systems.specs.View.{equations_of}
use Rattle.cert_types.specs.Certificates.{step_of}
use Rattle.theory_validity.specs.Steps.{start_vector}
use Rattle.theory_validity.specs.Certificates.{after_steps}
use Rattle.cert_checker.specs.Rooms.{HasRoom, IsAt}
use Rattle.cert_checker.specs.Events.{first_stop}
use Rattle.cert_checker.specs.StepEvents.{steps_events}
use Rattle.cert_fitted.specs.Fitted.{step_for}
use Rattle.cert_fitted.proofs.checking.check_steps.Given as goal

abbrev pub invariant-loop-number : goal.invariant-loop-number
invariant-loop-number l = record {
  room : HasRoom (equations_of l.system) l.scratch;
  z : Vector;
  at : IsAt (equations_of l.system) l.scratch z;
  leads : after_steps (map (step_of (length l.system.template)) (map (step_for (equations_of l.system)) l.steps)) start_vector
      ≡ after_steps (drop l.number (map (step_of (length l.system.template)) (map (step_for (equations_of l.system)) l.steps))) z;
  left : first_stop (steps_events (equations_of l.system) start_vector 0
      (map (step_of (length l.system.template)) (map (step_for (equations_of l.system)) l.steps)))
      ≡ first_stop (steps_events (equations_of l.system) z l.number
      (drop l.number (map (step_of (length l.system.template)) (map (step_for (equations_of l.system)) l.steps))));
}
