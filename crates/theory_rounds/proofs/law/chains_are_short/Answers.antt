use Rattle.theory_chains.specs.Offers.{Best, First}
use Rattle.theory_rounds.specs.ChainLaws.{Passing}
use Rattle.theory_rounds.proofs.rounds.Retraced.{short_law}
use Rattle.theory_rounds.proofs.law.chains_are_short.Goals as goal

pub returns-clause-best : goal.returns-clause-best
returns-clause-best c = short_law Best

pub returns-clause-first : goal.returns-clause-first
returns-clause-first c = short_law First

pub returns-clause-passing : goal.returns-clause-passing
returns-clause-passing c = λ test. short_law (Passing test)
