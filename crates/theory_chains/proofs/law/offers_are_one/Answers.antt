use Rattle.theory_chains.proofs.transformers.OneOffer.{transformer_one, offer_one}
use Rattle.theory_chains.proofs.law.offers_are_one.Goals as goal

pub returns-clause-transformer : goal.returns-clause-transformer
returns-clause-transformer c = transformer_one

pub returns-clause-offer : goal.returns-clause-offer
returns-clause-offer c = offer_one
