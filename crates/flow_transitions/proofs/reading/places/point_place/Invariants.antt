use Rattle.flow_transitions.proofs.progress.Positions.{IsPlaced}
use Rattle.flow_transitions.proofs.reading.places.point_place.Given as goal

abbrev pub invariant-loop-place : goal.invariant-loop-place
invariant-loop-place l = IsPlaced l.name l.points l.place
