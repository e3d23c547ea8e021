use Rattle.ask_verdicts.proofs.laws.Determined.{open_breaks}
use Rattle.ask_verdicts.proofs.law.open_states_break.Goals as goal

pub returns : goal.returns
returns c = open_breaks
