use Rattle.lp_theory.proofs.Evidence.{weak_empty}
use Rattle.lp_theory.proofs.problem.empty_has_no_point.Goals as goal

pub returns : goal.returns
returns c = weak_empty
