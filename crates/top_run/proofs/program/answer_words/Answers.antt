use Rattle.top_run.proofs.parts.Loaded.{unloaded}
use Rattle.top_run.proofs.program.answer_words.Goals as goal

pub returns-in-Err-clause-answer : goal.returns-in-Err-clause-answer
returns-in-Err-clause-answer g c = unloaded _ _ _ _ _ _ _ c.answer_unasked.ensures.cause c.answer_unasked.ensures.answer
