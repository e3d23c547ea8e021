use Rattle.flow_transitions.proofs.trees.Back.{is_read}
use Rattle.flow_transitions.proofs.trees.Means.{read_is}
use Rattle.flow_transitions.proofs.law.texts_are_read.Goals as goal

pub returns : goal.returns
returns c = λ text answer. (is_read text answer, read_is text answer)
