use Rattle.top_answer.proofs.laws.Lawful.{accepted_least}
use Rattle.top_answer.proofs.laws.accepted_is_least.Goals as goal

pub returns : goal.returns
returns c = accepted_least
