use Rattle.ask_claims.proofs.grammar.Unique.{reads_one}
use Rattle.ask_claims.proofs.law.one_list.Goals as goal

pub returns : goal.returns
returns c = λ tokens cs ds r s. reads_one tokens cs ds r s
