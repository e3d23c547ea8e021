use Rattle.theory_rounds.proofs.round_laws.Laws.{rounds_law}
use Rattle.theory_rounds.proofs.law.rounds_are_exact.Goals as goal

pub returns : goal.returns
returns c = rounds_law
