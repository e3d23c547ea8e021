use Rattle.std.proofs.Common.{◌≡◌, map}
use Rattle.flow_edges.specs.Trails.{kept_edge}
use Rattle.flow_transitions.specs.Choices.{edges_of}
use Rattle.flow_transitions.proofs.edges.edges_of.Given as goal

abbrev pub invariant-loop-point : goal.invariant-loop-point
invariant-loop-point l = l.list.items ≡ map kept_edge (edges_of l.point l.edges)
