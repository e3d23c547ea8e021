use Rattle.theory_rounds.proofs.round_laws.Laws.{steps_law}
use Rattle.theory_rounds.proofs.law.any_steps_do.Goals as goal

pub returns : goal.returns
returns c = steps_law
