use Rattle.theory_chains.proofs.offers.OnePosition.{best_is_one, first_is_one}
use Rattle.theory_chains.proofs.law.policies_answer_one.Goals as goal

pub returns-clause-best : goal.returns-clause-best
returns-clause-best c = best_is_one

pub returns-clause-first : goal.returns-clause-first
returns-clause-first c = first_is_one
