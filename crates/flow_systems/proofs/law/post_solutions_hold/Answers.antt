use Rattle.flow_systems.proofs.states.Soundness.{soundness, program_soundness}
use Rattle.flow_systems.proofs.law.post_solutions_hold.Goals as goal

pub returns-clause-paths : goal.returns-clause-paths
returns-clause-paths c = soundness

pub returns-clause-program : goal.returns-clause-program
returns-clause-program c = program_soundness
