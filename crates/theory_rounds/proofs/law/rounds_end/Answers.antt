use Rattle.theory_rounds.proofs.round_laws.Laws.{end_law}
use Rattle.theory_rounds.proofs.law.rounds_end.Goals as goal

pub returns : goal.returns
returns c = end_law
