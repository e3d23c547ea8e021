use Rattle.theory_rounds.proofs.round_laws.Laws.{turns_law}
use Rattle.theory_rounds.proofs.law.turns_are_exact.Goals as goal

pub returns : goal.returns
returns c = turns_law
