use Rattle.theory_rounds.proofs.round_laws.Laws.{coming_law}
use Rattle.theory_rounds.proofs.law.turns_come_up.Goals as goal

pub returns : goal.returns
returns c = coming_law
