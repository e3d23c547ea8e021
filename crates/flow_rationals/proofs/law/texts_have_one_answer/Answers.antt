use Rattle.flow_rationals.proofs.equation_texts.Once.{answers_once}
use Rattle.flow_rationals.proofs.law.texts_have_one_answer.Goals as goal

pub returns : goal.returns
returns c = answers_once
