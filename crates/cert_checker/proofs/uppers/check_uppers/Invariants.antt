use Rattle.std.proofs.Common.{map}
use Rattle.flow_systems.specs.Equations.{Vector}
use Rattle.flow_systems.specs.View.{equations_of}
use Rattle.cert_types.specs.Certificates.{evidence_of}
use Rattle.cert_checker.specs.Stands.{Stands}
use Rattle.cert_checker.proofs.events.Supply.{UppersLeft}
use Rattle.cert_checker.proofs.uppers.check_uppers.Given as goal

abbrev pub invariant-loop-upper : goal.invariant-loop-upper
invariant-loop-upper l = (z : Vector) → Stands (equations_of l.system) l.bounds z
    → UppersLeft (equations_of l.system) z (map evidence_of l.uppers) l.from l.upper-index
