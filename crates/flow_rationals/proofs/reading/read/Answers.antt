use Rattle.flow_rationals.proofs.equation_texts.OneAnswer.{gives_alone}
use Rattle.flow_rationals.proofs.reading.read.Goals as goal

pub returns-clause-exact : goal.returns-clause-exact
returns-clause-exact c = gives_alone c.args.text.now c.answer.result c.answer.ensures.equations_alone c.answer.ensures.alone
