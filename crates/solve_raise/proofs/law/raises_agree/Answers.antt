use Rattle.solve_raise.proofs.numbers.Agree.{agree}
use Rattle.solve_raise.proofs.law.raises_agree.Goals as goal

pub returns : goal.returns
returns c = agree
