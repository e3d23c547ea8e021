use Rattle.theory_chains.specs.Offers.{Best, First}
use Rattle.solve_rounds.proofs.chains.Improvements.{best_means, first_means, solved_law}
use Rattle.solve_rounds.proofs.law.solutions_are_ends.Goals as goal
use Rattle.solve_offers.specs.Policies.{by_best, by_first}

pub returns-clause-best : goal.returns-clause-best
returns-clause-best c = solved_law by_best Best best_means

pub returns-clause-first : goal.returns-clause-first
returns-clause-first c = solved_law by_first First first_means
