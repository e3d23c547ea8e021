use Rattle.std.proofs.Common.{drop}
use Rattle.flow_transitions.proofs.counted.Ways.{AreSummed}
use Rattle.flow_transitions.proofs.counting.edge_count.Given as goal

abbrev pub invariant-loop-edge : goal.invariant-loop-edge
invariant-loop-edge l = AreSummed l.edges (drop l.edge-index l.edges) l.count
