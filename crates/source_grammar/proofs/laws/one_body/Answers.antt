use Rattle.source_grammar.proofs.grammar.Once.{items_alone}
use Rattle.source_grammar.proofs.laws.one_body.Goals as goal

pub returns : goal.returns
returns c = λ is js g h q. items_alone is js g h q
