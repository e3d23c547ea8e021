use Rattle.lp_theory.proofs.Evidence.{one_kind}
use Rattle.lp_theory.proofs.problem.outcome_is_of_one_kind.Goals as goal

pub returns : goal.returns
returns c = one_kind
