use Rattle.flow_edges.proofs.steps.StepLaw.{steps_law}
use Rattle.flow_edges.proofs.law.steps_are_recorded.Goals as goal

pub returns : goal.returns
returns c = steps_law
