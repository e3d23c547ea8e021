use Rattle.top_run.proofs.parts.Ended.{is_run}
use Rattle.top_run.proofs.program.run_as.Goals as goal

pub returns-clause-run : goal.returns-clause-run
returns-clause-run g c =
    is_run _ g.met.P.Program.inside _ g.met.P.Program.plain _ _ _ _ _ _ _ _ _ _ _ _ _ c.answer_words-answered.ensures.answer
    c.answer_words-answered.ensures.pieces c.put_answer-ended.ensures c.tell.ensures.gets c.tell.ensures.piece
