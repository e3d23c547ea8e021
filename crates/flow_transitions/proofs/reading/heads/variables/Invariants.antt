use Rattle.std.proofs.Common.{◌-◌, length}
use Rattle.flow_transitions.proofs.progress.Loops.{ReadVariables}
use Rattle.flow_transitions.proofs.reading.heads.variables.Given as goal

abbrev pub invariant-names : goal.invariant-names
invariant-names l = ReadVariables l.text l.tokens l.names.items l.at l.more

abbrev pub decreases-names : goal.decreases-names
decreases-names l = length l.tokens - l.at
