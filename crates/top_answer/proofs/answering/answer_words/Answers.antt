use Rattle.top_answer.specs.Outcomes.{asked}
use Rattle.top_answer.proofs.requests.Ranges.{request_range}
use Rattle.top_answer.proofs.answering.answer_words.Goals as goal

pub answer_request-requires : goal.answer_request-requires
answer_request-requires g c = request_range _ _ c.in-Ok.ensures.ok

pub returns-in-Ok : goal.returns-in-Ok
returns-in-Ok g c = asked _ c.in-Ok.ensures.ok c.answer_request.ensures
