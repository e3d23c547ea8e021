use Rattle.theory_chains.specs.Offers.{Best, First, By}
use Rattle.theory_rounds.proofs.chain_laws.Choosing.{improvements_law}
use Rattle.theory_rounds.proofs.law.rounds_are_improvements.Goals as goal

pub returns-clause-best : goal.returns-clause-best
returns-clause-best c = improvements_law Best

pub returns-clause-first : goal.returns-clause-first
returns-clause-first c = improvements_law First

pub returns-clause-by_offers : goal.returns-clause-by_offers
returns-clause-by_offers c = λ answer. improvements_law (By answer)
