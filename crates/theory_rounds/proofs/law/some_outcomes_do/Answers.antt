use Rattle.theory_rounds.proofs.round_laws.Laws.{some_law}
use Rattle.theory_rounds.proofs.law.some_outcomes_do.Goals as goal

pub returns : goal.returns
returns c = some_law
