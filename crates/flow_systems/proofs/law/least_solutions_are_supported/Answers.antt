use Rattle.flow_systems.proofs.equations.Leastness.{supported_law, decided_law}
use Rattle.flow_systems.proofs.law.least_solutions_are_supported.Goals as goal

pub returns-clause-supported : goal.returns-clause-supported
returns-clause-supported c = supported_law

pub returns-clause-decided : goal.returns-clause-decided
returns-clause-decided c = decided_law
