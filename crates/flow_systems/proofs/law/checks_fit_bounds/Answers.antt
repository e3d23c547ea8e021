use Rattle.flow_systems.proofs.states.Checked.{checked_law}
use Rattle.flow_systems.proofs.law.checks_fit_bounds.Goals as goal

pub returns : goal.returns
returns c = checked_law
