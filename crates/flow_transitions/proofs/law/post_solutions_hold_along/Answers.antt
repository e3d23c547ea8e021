use Rattle.flow_transitions.proofs.along.Bounded.{soundness_along}
use Rattle.flow_transitions.proofs.law.post_solutions_hold_along.Goals as goal

pub returns : goal.returns
returns c = soundness_along
