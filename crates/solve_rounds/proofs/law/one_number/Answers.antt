use Rattle.solve_rounds.proofs.chains.OneNumber.{one_number, spent_below}
use Rattle.solve_rounds.proofs.law.one_number.Goals as goal

pub returns-clause-solved : goal.returns-clause-solved
returns-clause-solved g c one system = one_number system _ one

pub returns-clause-spent : goal.returns-clause-spent
returns-clause-spent g c one system = spent_below system _ one
