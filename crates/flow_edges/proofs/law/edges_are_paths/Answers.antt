use Rattle.flow_edges.proofs.paths.PathLaw.{edges_law}
use Rattle.flow_edges.proofs.law.edges_are_paths.Goals as goal

pub returns : goal.returns
returns c = edges_law
