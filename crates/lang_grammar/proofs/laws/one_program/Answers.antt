use Rattle.lang_grammar.proofs.grammar.Once.{reads_once}
use Rattle.lang_grammar.proofs.laws.one_program.Goals as goal

pub returns : goal.returns
returns c = λ w p q r s. reads_once w p q r s
