use Rattle.std.proofs.Common.{[], inr, refl}
use Rattle.top_run.specs.Parts.{is_kept}
use Rattle.top_run.specs.declared.output.Pieces.TheVariants.{Lines}
use Rattle.top_run.proofs.parts.Answering.{for_memory, memory_without}
use Rattle.top_run.proofs.parts.Ended.{is_run}
use Rattle.top_run.proofs.parts.Loaded.{unloaded}
use Rattle.top_run.proofs.program.run_without_words.Goals as goal

pub returns : goal.returns
returns g c = λ words.
    is_run _ g.met.P.Program.inside _ g.met.P.Program.plain words _ _ _ _ _ _ Lines _ _ _ _ _
    (unloaded _ _ words _ _ _ _ (inr c.plain_answer-answer.ensures.status)
    (for_memory _ _ g.met.P.Program.plain.memory words [] _ _ _ c.plain_answer-answer.ensures.status c.plain_answer-answer.ensures.bytes
    c.plain_answer-answer.ensures.message))
    (λ request asked d. absurd (memory_without _ c.plain_answer-answer.ensures.status d))
    (is_kept (memory_without _ c.plain_answer-answer.ensures.status) refl refl refl)
    c.tell.ensures.gets c.tell.ensures.piece
