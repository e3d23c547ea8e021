use Rattle.lp_theory.proofs.search.Stops.{after_good}
use Rattle.lp_theory.proofs.bland.Measures.{next_goal}
use Rattle.lp_theory.proofs.bland.step_keeps_feasible.Goals as goal

pub returns-clause-good : goal.returns-clause-good
returns-clause-good c = after_good

pub returns-clause-goal : goal.returns-clause-goal
returns-clause-goal c = next_goal
