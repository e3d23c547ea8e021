use Rattle.top_answer.proofs.laws.Lawful.{one_upgrade}
use Rattle.top_answer.proofs.laws.upgrade_is_one.Goals as goal

pub returns : goal.returns
returns c = one_upgrade
