use Rattle.solve_rounds.proofs.solving.Outcomes.{solved_same}
use Rattle.solve_rounds.proofs.law.one_vector.Goals as goal

pub returns : goal.returns
returns g c limit again solved other = solved_same c.args.system.now _ _ limit again solved other
