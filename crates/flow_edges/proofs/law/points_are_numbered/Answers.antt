use Rattle.flow_edges.proofs.points.Numbering.{numbering}
use Rattle.flow_edges.proofs.law.points_are_numbered.Goals as goal

pub returns : goal.returns
returns c = numbering
