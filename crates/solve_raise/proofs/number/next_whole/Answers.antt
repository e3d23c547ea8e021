use Rattle.solve_raise.proofs.number.Towards.{next_answer}
use Rattle.solve_raise.proofs.number.next_whole.Goals as goal

pub returns : goal.returns
returns c = next_answer c.args.number c.floor_of.result c.one.result c.plus.result c.floor_of.ensures c.one.ensures.value c.plus.ensures
