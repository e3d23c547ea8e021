use Rattle.theory_strategy.proofs.picks.Picks.{value_flat}
use Rattle.theory_strategy.proofs.law.transformers_are_flat.Goals as goal

pub returns : goal.returns
returns c = value_flat
