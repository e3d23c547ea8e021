use Rattle.lang_tokens.proofs.lexer.Exact.{reading_answered, fault_answered, tokens_placed}
use Rattle.lang_tokens.proofs.lexer.lex.Goals as goal

pub returns-clause-reads : goal.returns-clause-reads
returns-clause-reads c = reading_answered c.args.lexicon c.args.text.now c.scan.result c.scan.ensures

pub returns-clause-faults : goal.returns-clause-faults
returns-clause-faults c = fault_answered c.args.lexicon c.args.text.now c.scan.result c.scan.ensures

pub returns-clause-placed : goal.returns-clause-placed
returns-clause-placed c = tokens_placed c.args.lexicon c.args.text.now c.scan.result c.scan.ensures
