use Rattle.top_texts.proofs.rounds.OneChain.{runs_few}
use Rattle.top_answer.proofs.laws.spent_is_few.Goals as goal

pub returns : goal.returns
returns c = runs_few
