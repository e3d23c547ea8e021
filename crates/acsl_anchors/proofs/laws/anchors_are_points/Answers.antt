use Rattle.acsl_anchors.proofs.walked.Functions.{points_are}
use Rattle.acsl_anchors.proofs.laws.anchors_are_points.Goals as goal

pub returns : goal.returns
returns c = points_are
