use Rattle.ask_words.specs.Request.{source_text}
use Rattle.top_answer.proofs.commands.Checks.{unspelt}
use Rattle.top_answer.proofs.outcome.checked.Goals as goal

pub returns-in-Ok-clause-says : goal.returns-in-Ok-clause-says
returns-in-Ok-clause-says c = c.accepted.ensures.says (source_text c.args.source) c.args.certificate.now c.in-Ok.ensures.spelt

pub returns-in-Err-clause-says : goal.returns-in-Err-clause-says
returns-in-Err-clause-says c = unspelt _ _ _ c.in-Err.refusal _ _ c.in-Err.ensures.err c.outcome_from.ensures.is
