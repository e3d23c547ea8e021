use Rattle.std.proofs.Common.{◌*◌, ◌≤◌}
use Rattle.flow_systems.specs.Equations.{Vector}
use Rattle.flow_systems.specs.View.{equations_of}
use Rattle.cert_checker.specs.Stands.{Stands}
use Rattle.cert_checker.proofs.size.Counts.{CountLeft}
use Rattle.flow_edges.specs.declared.limits.TheConstants.{MOST_EDGES}
use Rattle.cert_checker.proofs.size.count_needed.Given as goal

abbrev pub invariant-loop-unknown : goal.invariant-loop-unknown
invariant-loop-unknown l = record {
  few : l.count ≤ MOST_EDGES * l.unknown;
  left : (z : Vector) → Stands (equations_of l.system) l.bounds z → CountLeft (equations_of l.system) z l.unknown l.count;
}
