use Rattle.theory_strategy.proofs.round.NoTwice.{no_twice}
use Rattle.theory_strategy.proofs.law.no_pick_twice.Goals as goal

pub returns : goal.returns
returns c = no_twice
