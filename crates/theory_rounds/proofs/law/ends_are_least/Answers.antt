use Rattle.theory_chains.specs.Offers.{Best, First}
use Rattle.theory_rounds.specs.ChainLaws.{Passing}
use Rattle.theory_rounds.proofs.rounds.Retraced.{least_law}
use Rattle.theory_rounds.proofs.law.ends_are_least.Goals as goal

pub returns-clause-best : goal.returns-clause-best
returns-clause-best c = least_law Best

pub returns-clause-first : goal.returns-clause-first
returns-clause-first c = least_law First

pub returns-clause-passing : goal.returns-clause-passing
returns-clause-passing c = λ test. least_law (Passing test)
