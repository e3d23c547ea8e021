use Rattle.flow_systems.specs.Equations.{Equations, Vector}
use Rattle.cert_checker.specs.Stands.{Stands}
use Rattle.cert_checker.proofs.final_vector.Compared.{FinalLeft}
use Rattle.cert_checker.proofs.final_vector.compare.Given as goal

abbrev pub invariant-loop-unknown : goal.invariant-loop-unknown
invariant-loop-unknown l = (system : Equations) (z ends : Vector) → Stands system l.reached z → Stands system l.bounds ends
    → FinalLeft system z ends l.unknown
