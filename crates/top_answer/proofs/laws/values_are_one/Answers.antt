use Rattle.top_texts.proofs.equation_texts.OneText.{values_once}
use Rattle.top_answer.proofs.laws.values_are_one.Goals as goal

pub returns : goal.returns
returns c = values_once
