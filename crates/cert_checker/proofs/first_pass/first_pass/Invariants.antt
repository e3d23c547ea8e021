use Rattle.std.proofs.Common.{length}
use Rattle.flow_systems.specs.Equations.{Vector}
use Rattle.flow_systems.specs.View.{equations_of}
use Rattle.cert_types.specs.Certificates.{step_of}
use Rattle.cert_checker.specs.Stands.{Stands}
use Rattle.cert_checker.proofs.names.Items.{FirstLeft}
use Rattle.cert_checker.proofs.first_pass.first_pass.Given as goal

abbrev pub invariant-loop-k : goal.invariant-loop-k
invariant-loop-k l = (z : Vector) → Stands (equations_of l.system) l.bounds z
    → FirstLeft (step_of (length l.system.template) l.step).kind (equations_of l.system) z l.number
    (step_of (length l.system.template) l.step).items l.k
