use Rattle.theory_chains.specs.Offers.{Best, First, By}
use Rattle.theory_chains.proofs.chains.OneChain.{determined, by_is_one}
use Rattle.theory_chains.proofs.offers.OnePosition.{best_is_one, first_is_one}
use Rattle.theory_chains.proofs.law.chains_are_one.Goals as goal

pub returns-clause-by_offers : goal.returns-clause-by_offers
returns-clause-by_offers c = λ answer. determined (By answer) (by_is_one answer)

pub returns-clause-best : goal.returns-clause-best
returns-clause-best c = determined Best best_is_one

pub returns-clause-first : goal.returns-clause-first
returns-clause-first c = determined First first_is_one
