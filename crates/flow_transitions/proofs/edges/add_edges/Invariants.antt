use Rattle.std.proofs.Common.{◌≡◌, ◌++◌, map, take}
use Rattle.flow_edges.specs.Trails.{kept_edge}
use Rattle.flow_transitions.specs.Choices.{choices_in, edge_by}
use Rattle.flow_transitions.proofs.edges.add_edges.Given as goal

abbrev pub invariant-loop-number : goal.invariant-loop-number
invariant-loop-number l =
    l.list.items ≡ l.initial.list.items ++ map kept_edge (map (edge_by l.edge) (take l.number (choices_in l.edge.acts)))
