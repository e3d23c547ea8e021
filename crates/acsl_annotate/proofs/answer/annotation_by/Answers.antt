use Rattle.top_answer.specs.Outcomes.{asked}
use Rattle.top_answer.proofs.requests.Ranges.{request_range}
use Rattle.acsl_annotate.proofs.answer.annotation_by.Goals as goal

pub annotation_of-requires : goal.annotation_of-requires
annotation_of-requires g c = let r = c.in-Ok.ensures.ok in request_range _ _ r.1

pub returns-in-Ok : goal.returns-in-Ok
returns-in-Ok g c = let r = c.in-Ok.ensures.ok in asked _ r.1 (c.annotation_of.ensures r.0)
