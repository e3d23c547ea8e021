use Rattle.source_core.proofs.runs.Machine.{machine-runs}
use Rattle.flow_source.proofs.laws.runs_are_by_all.Goals as goal

pub returns : goal.returns
returns c = machine-runs
