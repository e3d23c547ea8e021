use Rattle.std.proofs.Common.{◌≡◌, ◌++◌, drop}
use Rattle.flow_edges.specs.Trails.{reached, walked}
use Rattle.flow_edges.proofs.onward.go_on.Given as goal

abbrev pub invariant-loop-edge : goal.invariant-loop-edge
invariant-loop-edge l = l.edges.items ++ reached l.trail (walked (drop l.edge-index l.next))
    ≡ l.initial.edges.items ++ reached l.trail (walked l.next)
