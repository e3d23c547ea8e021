use Rattle.flow_edges.proofs.paths.PathLaw.{behind_law}
use Rattle.flow_edges.proofs.law.work_behind_points.Goals as goal

pub returns : goal.returns
returns c = behind_law
