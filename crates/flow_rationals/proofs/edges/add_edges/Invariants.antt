use Rattle.std.proofs.Common.{◌≡◌, ◌++◌, take, map}
use Rattle.flow_rationals.specs.System.{alternative_edge}
use Rattle.flow_rationals.proofs.edges.add_edges.Given as goal

abbrev pub invariant-loop-sums : goal.invariant-loop-sums
invariant-loop-sums l = l.list.items ≡ l.initial.list.items ++ map (alternative_edge l.names l.name) (take l.sums-index l.alternatives)
