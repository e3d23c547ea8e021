use Rattle.source_core.proofs.laws.runs_are_kept.Goals as goal
use Rattle.source_core.proofs.runs.Runs.{runs-kept}
use Rattle.source_core.proofs.runs.Checks.{checks-kept}
use Rattle.source_core.proofs.runs.Ranges.{states-in}
use Rattle.source_core.proofs.runs.Machine.{machine-runs}
use Rattle.source_core.proofs.backward.Backward.{runs-exact}

pub returns-clause-runs : goal.returns-clause-runs
returns-clause-runs c = runs-kept

pub returns-clause-checks : goal.returns-clause-checks
returns-clause-checks c = checks-kept

pub returns-clause-exact : goal.returns-clause-exact
returns-clause-exact c = runs-exact

pub returns-clause-machine : goal.returns-clause-machine
returns-clause-machine c = machine-runs

pub returns-clause-states : goal.returns-clause-states
returns-clause-states c = states-in
