use Rattle.std.proofs.Common.{◌≡◌, ◌++◌, map, take}
use Rattle.flow_transitions.specs.AutoReading.{label_of}
use Rattle.flow_transitions.proofs.reading.points_of.Given as goal

abbrev pub invariant-loop-point : goal.invariant-loop-point
invariant-loop-point l = l.list.items ≡ l.initial.list.items ++ map label_of (take l.point-index l.later)
