use Rattle.source_grammar.proofs.grammar.Once.{expr_alone}
use Rattle.source_grammar.proofs.laws.one_expression.Goals as goal

pub returns : goal.returns
returns c = λ e f g h q. expr_alone e f g h q
