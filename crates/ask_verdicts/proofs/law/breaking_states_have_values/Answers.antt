use Rattle.ask_verdicts.proofs.laws.Sizes.{have_values}
use Rattle.ask_verdicts.proofs.law.breaking_states_have_values.Goals as goal

pub returns : goal.returns
returns c = have_values
