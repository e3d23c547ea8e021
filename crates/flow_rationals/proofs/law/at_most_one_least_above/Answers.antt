use Rattle.flow_rationals.proofs.above.LeastAbove.{at_most_one}
use Rattle.flow_rationals.proofs.law.at_most_one_least_above.Goals as goal

pub returns : goal.returns
returns c = at_most_one
