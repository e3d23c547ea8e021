use Rattle.flow_systems.proofs.equations.Leastness.{unreached_law}
use Rattle.flow_systems.proofs.law.unreached_at_all_rows.Goals as goal

pub returns : goal.returns
returns c = unreached_law
