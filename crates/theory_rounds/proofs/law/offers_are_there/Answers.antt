use Rattle.theory_rounds.proofs.chain_laws.Choosing.{offers_law}
use Rattle.theory_rounds.proofs.law.offers_are_there.Goals as goal

pub returns : goal.returns
returns c = offers_law
