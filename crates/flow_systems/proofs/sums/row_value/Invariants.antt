use Rattle.flow_systems.proofs.states.Summed.{IsSummed}
use Rattle.flow_systems.proofs.sums.row_value.Given as goal

abbrev pub invariant-loop-i : goal.invariant-loop-i
invariant-loop-i l = IsSummed l.row l.state l.i l.sum
