use Rattle.flow_edges.proofs.edges.Ranges.{ranges_law}
use Rattle.flow_edges.proofs.law.edges_are_in_range.Goals as goal

pub returns : goal.returns
returns c = ranges_law
