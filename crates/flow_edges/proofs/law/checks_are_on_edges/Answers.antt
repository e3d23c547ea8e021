use Rattle.flow_edges.proofs.at_checks.CheckLaw.{check_law}
use Rattle.flow_edges.proofs.law.checks_are_on_edges.Goals as goal

pub returns : goal.returns
returns c = check_law
