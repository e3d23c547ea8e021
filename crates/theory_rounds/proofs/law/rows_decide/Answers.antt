use Rattle.theory_rounds.proofs.round_laws.Laws.{rows_law}
use Rattle.theory_rounds.proofs.law.rows_decide.Goals as goal

pub returns : goal.returns
returns c = rows_law
