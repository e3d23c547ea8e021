use Rattle.flow_systems.proofs.states.FreeValueLaw.{free_value_law}
use Rattle.flow_systems.proofs.law.traces_are_followed.Goals as goal

pub returns : goal.returns
returns c = free_value_law
