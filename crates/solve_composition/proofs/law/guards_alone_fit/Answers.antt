use Rattle.solve_composition.proofs.behind.Plain.{guards_alone}
use Rattle.solve_composition.proofs.law.guards_alone_fit.Goals as goal

pub returns : goal.returns
returns c = guards_alone
