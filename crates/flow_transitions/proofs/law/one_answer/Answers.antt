use Rattle.flow_transitions.proofs.progress.Once as text
use Rattle.flow_transitions.proofs.law.one_answer.Goals as goal

pub returns : goal.returns
returns c = text.one_answer
