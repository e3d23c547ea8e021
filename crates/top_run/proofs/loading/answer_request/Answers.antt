use Rattle.top_run.proofs.parts.Loaded.{behind, not_err, over}
use Rattle.top_run.proofs.loading.answer_request.Goals as goal

pub returns-in-Ok-clause-answer : goal.returns-in-Ok-clause-answer
returns-in-Ok-clause-answer g c =
    over _ _ _ _ _ _ c.load_request.result _ _ _ _ c.requires.asked c.load_request.ensures (λ e. absurd (not_err _ _ c.in-Ok.is e))
    (behind c.loaded-before.result.now c.loaded.result.now _ _ _ c.loaded-before.ensures.loads c.loaded.ensures.loads
    c.load_request.ensures.log)
    c.answer_loads.ensures.answer

pub returns-in-Err-clause-answer : goal.returns-in-Err-clause-answer
returns-in-Err-clause-answer g c =
    over _ _ _ _ _ _ c.load_request.result _ _ _ _ c.requires.asked c.load_request.ensures (λ e. c.answer_memory.ensures.status)
    (behind c.loaded-before.result.now c.loaded-in-Err.result.now _ _ _ c.loaded-before.ensures.loads c.loaded-in-Err.ensures.loads
    c.load_request.ensures.log)
    c.answer_memory.ensures.answer
