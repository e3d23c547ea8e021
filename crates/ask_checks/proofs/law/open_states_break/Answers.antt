use Rattle.ask_checks.proofs.laws.Held.{open_breaks}
use Rattle.ask_checks.proofs.law.open_states_break.Goals as goal

pub returns : goal.returns
returns c = open_breaks
