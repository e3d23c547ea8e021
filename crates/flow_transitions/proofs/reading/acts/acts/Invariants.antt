use Rattle.std.proofs.Common.{◌-◌, length}
use Rattle.flow_transitions.proofs.progress.Loops.{ReadActs}
use Rattle.flow_transitions.proofs.reading.acts.acts.Given as goal

abbrev pub invariant-acts : goal.invariant-acts
invariant-acts l = ReadActs l.text l.tokens l.names l.initial.at l.acts.items l.at

abbrev pub decreases-acts : goal.decreases-acts
decreases-acts l = length l.tokens - l.at
