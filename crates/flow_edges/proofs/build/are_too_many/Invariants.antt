use Rattle.std.proofs.Common.{drop}
use Rattle.flow_edges.proofs.build.ActionTotals.{IsLeft}
use Rattle.flow_edges.proofs.build.are_too_many.Given as goal

abbrev pub invariant-loop-edge : goal.invariant-loop-edge
invariant-loop-edge l = IsLeft l.edges (drop l.edge-index l.edges) l.left
