use Rattle.ask_claims.proofs.laws.Lists.{open_breaks}
use Rattle.ask_claims.proofs.law.open_states_break.Goals as goal

pub returns : goal.returns
returns c = open_breaks
