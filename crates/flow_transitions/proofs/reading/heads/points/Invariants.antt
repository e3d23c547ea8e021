use Rattle.std.proofs.Common.{◌-◌, length}
use Rattle.flow_transitions.proofs.progress.Loops.{ReadPoints}
use Rattle.flow_transitions.proofs.reading.heads.points.Given as goal

abbrev pub invariant-points : goal.invariant-points
invariant-points l = ReadPoints l.text l.tokens l.fn.at l.points.items l.at l.more

abbrev pub decreases-points : goal.decreases-points
decreases-points l = length l.tokens - l.at
