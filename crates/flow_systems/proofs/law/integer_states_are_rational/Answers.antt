use Rattle.flow_systems.proofs.states.RationalStates.{rational_law}
use Rattle.flow_systems.proofs.law.integer_states_are_rational.Goals as goal

pub returns : goal.returns
returns c = rational_law
