use Rattle.source_grammar.proofs.grammar.Once.{reads_once}
use Rattle.source_grammar.proofs.laws.one_function.Goals as goal

pub returns : goal.returns
returns c = λ w f g r s. reads_once w f g r s
