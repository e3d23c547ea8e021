use Rattle.ask_words.specs.Request.{source_text}
use Rattle.top_texts.proofs.program.tokens_of.Goals as goal

pub returns-in-Err-clause-err : goal.returns-in-Err-clause-err
returns-in-Err-clause-err c = c.lex_refusal.ensures (source_text c.args.program) c.in-Err.ensures.err
