use Rattle.solve_offers.specs.Policies.{by_best, by_first}
use Rattle.solve_rounds.proofs.chains.OneNumber.{one_number, spent_below}
use Rattle.solve_rounds.proofs.least_laws.OnePosition.{best_is_one, first_is_one}
use Rattle.solve_rounds.proofs.law.policies_have_one_number.Goals as goal

pub returns-clause-best : goal.returns-clause-best
returns-clause-best c = best_is_one

pub returns-clause-first : goal.returns-clause-first
returns-clause-first c = first_is_one

pub returns-clause-solved_by_best : goal.returns-clause-solved_by_best
returns-clause-solved_by_best c system = one_number system by_best best_is_one

pub returns-clause-solved_by_first : goal.returns-clause-solved_by_first
returns-clause-solved_by_first c system = one_number system by_first first_is_one

pub returns-clause-spent_by_best : goal.returns-clause-spent_by_best
returns-clause-spent_by_best c system = spent_below system by_best best_is_one

pub returns-clause-spent_by_first : goal.returns-clause-spent_by_first
returns-clause-spent_by_first c system = spent_below system by_first first_is_one
