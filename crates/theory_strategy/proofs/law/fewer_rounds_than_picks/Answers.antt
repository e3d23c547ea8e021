use Rattle.theory_strategy.proofs.round.FewRounds.{rounds_fewer}
use Rattle.theory_strategy.proofs.law.fewer_rounds_than_picks.Goals as goal

pub returns : goal.returns
returns c = rounds_fewer
