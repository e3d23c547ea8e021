use Rattle.std.proofs.Common.{◌≡◌, length, take}
use Rattle.std.specs.Prelude.{flat_map}
use Rattle.std.specs.List.{enumerate_from}
use Rattle.flow_rationals.specs.System.{start_actions}
use Rattle.flow_rationals.proofs.edges.start_edge.Given as goal

abbrev pub invariant-loop-k : goal.invariant-loop-k
invariant-loop-k l = l.actions.items ≡ flat_map (start_actions (length l.equations)) (enumerate_from 0 (take l.k l.equations))
