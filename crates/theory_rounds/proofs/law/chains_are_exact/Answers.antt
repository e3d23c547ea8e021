use Rattle.theory_rounds.proofs.round_laws.Laws.{chains_law}
use Rattle.theory_rounds.proofs.law.chains_are_exact.Goals as goal

pub returns : goal.returns
returns c = chains_law
