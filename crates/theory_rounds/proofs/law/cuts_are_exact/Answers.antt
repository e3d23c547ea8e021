use Rattle.theory_rounds.proofs.round_laws.Laws.{cuts_law}
use Rattle.theory_rounds.proofs.law.cuts_are_exact.Goals as goal

pub returns : goal.returns
returns c = cuts_law
