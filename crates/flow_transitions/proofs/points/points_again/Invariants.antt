use Rattle.std.proofs.Common.{◌≡◌, take}
use Rattle.flow_transitions.proofs.points.points_again.Given as goal

abbrev pub invariant-loop-point : goal.invariant-loop-point
invariant-loop-point l = l.list.items ≡ take l.point-index l.point-items
