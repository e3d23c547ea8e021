use Rattle.flow_transitions.proofs.progress.Positions.{placed_none}
use Rattle.flow_transitions.proofs.reading.places.point_place.Goals as goal

pub loop-place-init : goal.loop-place-init
loop-place-init c = placed_none c.args.name.now c.args.points.now
