use Rattle.theory_rounds.proofs.round_laws.Laws.{any_law}
use Rattle.theory_rounds.proofs.law.any_outcomes_do.Goals as goal

pub returns : goal.returns
returns c = any_law
