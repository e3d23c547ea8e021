use Rattle.flow_edges.proofs.edges.WaysLaw.{ways_law}
use Rattle.flow_edges.proofs.law.ways_are_steps.Goals as goal

pub returns : goal.returns
returns c = ways_law
