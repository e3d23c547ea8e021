use Rattle.theory_chains.specs.Offers.{Best, First}
use Rattle.theory_chains.proofs.offers.OnePosition.{best_is_one, first_is_one}
use Rattle.theory_rounds.proofs.chain_laws.Choosing.{decided_law, every_decided, best_chooses, first_chooses}
use Rattle.theory_rounds.proofs.law.chains_end_or_go_on.Goals as goal

pub returns-clause-best : goal.returns-clause-best
returns-clause-best c = decided_law Best best_chooses best_is_one

pub returns-clause-first : goal.returns-clause-first
returns-clause-first c = decided_law First first_chooses first_is_one

pub returns-clause-by_offers : goal.returns-clause-by_offers
returns-clause-by_offers c = every_decided
