use Rattle.lp_theory.proofs.Evidence.{weak_best}
use Rattle.lp_theory.proofs.problem.best_is_greatest.Goals as goal

pub returns : goal.returns
returns c = weak_best
