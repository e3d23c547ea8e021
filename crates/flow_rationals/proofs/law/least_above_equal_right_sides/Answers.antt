use Rattle.flow_rationals.proofs.above.LeastAbove.{equal_right_sides}
use Rattle.flow_rationals.proofs.law.least_above_equal_right_sides.Goals as goal

pub returns : goal.returns
returns c = equal_right_sides
