use Rattle.std.proofs.Common.{◌≡◌, take}
use Rattle.flow_edges.specs.Trails.{followed}
use Rattle.flow_edges.proofs.trail.Trail.along.Given as goal

abbrev pub invariant-loop-action : goal.invariant-loop-action
invariant-loop-action l = l.trail ≡ followed l.initial.trail (take l.action-index l.action-items)
