use Rattle.std.proofs.Common.{◌≡◌}
use Rattle.flow_systems.specs.Equations.{Vector}
use Rattle.flow_systems.specs.View.{equations_of}
use Rattle.cert_checker.specs.Needs.{needs_left}
use Rattle.cert_checker.specs.Stands.{Stands}
use Rattle.cert_checker.proofs.needs.Needed.next.Given as goal

abbrev pub invariant-loop-unknown : goal.invariant-loop-unknown
invariant-loop-unknown l = (z : Vector) → Stands (equations_of l.system) l.bounds z
    → needs_left (equations_of l.system) z l.fn.self ≡ needs_left (equations_of l.system) z (record { unknown = l.unknown; edge = l.edge })
