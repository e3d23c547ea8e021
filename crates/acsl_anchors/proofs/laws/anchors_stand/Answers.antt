use Rattle.acsl_anchors.proofs.standing.Tokens.{anchors_stand}
use Rattle.acsl_anchors.proofs.laws.anchors_stand.Goals as goal

pub returns : goal.returns
returns c = anchors_stand
