use Rattle.top_texts.proofs.claim_texts.OneText.{verdicts_once}
use Rattle.top_answer.proofs.laws.verdicts_are_one.Goals as goal

pub returns : goal.returns
returns c = verdicts_once
