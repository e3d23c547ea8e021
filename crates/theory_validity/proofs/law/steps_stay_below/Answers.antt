use Rattle.theory_validity.proofs.steps.StepLaw.{step_below}
use Rattle.theory_validity.proofs.law.steps_stay_below.Goals as goal

pub returns : goal.returns
returns c = step_below
