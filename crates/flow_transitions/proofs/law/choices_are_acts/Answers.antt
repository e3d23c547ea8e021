use Rattle.flow_transitions.proofs.along.ActLaw.{choices_law}
use Rattle.flow_transitions.proofs.law.choices_are_acts.Goals as goal

pub returns : goal.returns
returns c = choices_law
