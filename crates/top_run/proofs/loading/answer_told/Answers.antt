use Rattle.std.proofs.Common.{refl}
use Rattle.top_run.proofs.parts.Answering.{same_contents}
use Rattle.top_run.proofs.loading.answer_told.Goals as goal

pub returns-then-told-clause-answer : goal.returns-then-told-clause-answer
returns-then-told-clause-answer g c =
    same_contents _ _ _ _ _ _ _ _ refl c.answer.ensures.answer c.answer.ensures.output c.answer.ensures.complete c.answer.ensures.message

pub returns-else-told-clause-answer : goal.returns-else-told-clause-answer
returns-else-told-clause-answer g c =
    same_contents _ _ _ _ _ _ _ _ refl c.answer-else-told.ensures.answer c.answer-else-told.ensures.output
    c.answer-else-told.ensures.complete c.answer-else-told.ensures.message
