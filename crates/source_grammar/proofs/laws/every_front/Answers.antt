use Rattle.source_grammar.proofs.machine.Meaning.{accepts_law, begins_law}
use Rattle.source_grammar.proofs.laws.every_front.Goals as goal

pub returns-clause-accepts : goal.returns-clause-accepts
returns-clause-accepts c = λ w. accepts_law w

pub returns-clause-begins : goal.returns-clause-begins
returns-clause-begins c = λ front. begins_law front
