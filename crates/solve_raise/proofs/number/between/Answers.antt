use Rattle.solve_raise.proofs.number.Towards.{next_taken, middle_taken}
use Rattle.solve_raise.proofs.number.between.Goals as goal

pub returns-in-Some : goal.returns-in-Some
returns-in-Some c = next_taken c.args.bound c.args.value c.in-Some.next c.in-Some.ensures.0 c.in-Some.ensures.1

pub returns-in-None : goal.returns-in-None
returns-in-None c = middle_taken c.args.bound c.args.value c.middle.result c.in-None.ensures c.middle.ensures
