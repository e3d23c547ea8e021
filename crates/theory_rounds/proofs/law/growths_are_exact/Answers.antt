use Rattle.theory_rounds.proofs.round_laws.Laws.{growths_law}
use Rattle.theory_rounds.proofs.law.growths_are_exact.Goals as goal

pub returns : goal.returns
returns c = growths_law
