use Rattle.ask_checks.proofs.laws.Determined.{verdicts_are_one}
use Rattle.top_texts.proofs.check_texts.OneText.{check_verdicts_once, judged_once}
use Rattle.top_answer.proofs.laws.check_verdicts_are_one.Goals as goal

pub returns : goal.returns
returns c = record {
  bytes = λ file text rows policy limit format ending another one other h k.
      check_verdicts_once text rows policy limit verdicts_are_one file format ending another one other h k;
  ending = judged_once;
}
