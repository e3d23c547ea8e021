use Rattle.std.proofs.Common.{◌-◌, length}
use Rattle.flow_transitions.proofs.progress.Loops.{ReadEdges}
use Rattle.flow_transitions.proofs.reading.edges.edges.Given as goal

abbrev pub invariant-edges : goal.invariant-edges
invariant-edges l = ReadEdges l.text l.tokens l.names l.points l.initial.at l.edges.items l.at

abbrev pub decreases-edges : goal.decreases-edges
decreases-edges l = length l.tokens - l.at
