use Rattle.flow_systems.proofs.equations.Leastness.{at_most_one}
use Rattle.flow_systems.proofs.law.at_most_one_least.Goals as goal

pub returns : goal.returns
returns c = at_most_one
