use Rattle.std.proofs.Common.{length}
use Rattle.flow_systems.specs.Equations.{Vector}
use Rattle.flow_systems.specs.View.{equations_of}
use Rattle.cert_types.specs.Certificates.{step_of}
use Rattle.theory_validity.specs.Steps.{Kind, new_value, put}
use Rattle.cert_checker.specs.Stands.{Stands}
use Rattle.cert_checker.proofs.names.Items.{SecondLeft}
use Rattle.cert_checker.proofs.second_pass.test_jump.Given as goal

abbrev pub invariant-loop-k : goal.invariant-loop-k
invariant-loop-k l = (z : Vector) → Stands (equations_of l.system) l.base z
    → Stands (equations_of l.system) l.next (put (new_value Kind.Jump) (step_of (length l.system.template) l.step).items z)
    → SecondLeft Kind.Jump (equations_of l.system) z l.number (step_of (length l.system.template) l.step).items l.k
