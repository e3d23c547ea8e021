use Rattle.std.proofs.Common.{◌≡◌, ◌++◌, drop, map}
use Rattle.flow_edges.specs.Trails.{kept_edge}
use Rattle.flow_transitions.specs.Choices.{edges_at}
use Rattle.flow_transitions.proofs.edges.add_edges_at.Given as goal

abbrev pub invariant-loop-edge : goal.invariant-loop-edge
invariant-loop-edge l =
    l.list.items ++ map kept_edge (edges_at (drop l.edge-index l.edges) l.point)
    ≡ l.initial.list.items ++ map kept_edge (edges_at l.edges l.point)
