use Rattle.top_run.proofs.parts.Answering.{for_memory}
use Rattle.top_run.proofs.loading.answer_memory.Goals as goal

pub returns-clause-answer : goal.returns-clause-answer
returns-clause-answer g c = for_memory _ _ g.met.P.Program.plain.memory _ _ _ _ _ c.plain_answer.ensures.status c.plain_answer.ensures.bytes
    c.plain_answer.ensures.message
