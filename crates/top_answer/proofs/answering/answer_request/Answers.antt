use Rattle.std.proofs.Common.{◌∙◌, ap, subst, sym}
use Rattle.ask_words.specs.Request.{request_text}
use Rattle.top_answer.specs.Commands.{command_of}
use Rattle.top_answer.specs.Outcomes.{not_read}
use Rattle.top_status.specs.Messages.{message_of}
use Rattle.top_texts.specs.Exact.{exact}
use Rattle.top_answer.proofs.commands.Table.{in_limits}
use Rattle.top_answer.proofs.answering.answer_request.Goals as goal

pub returns-in-Ok-Some : goal.returns-in-Ok-Some
returns-in-Ok-Some g c = not_read c.in-Ok-Some.cause (sym c.in-Ok-Some.ensures ∙ c.in-Ok-Some.field-0-is) c.plain_answer.ensures.status
    c.plain_answer.ensures.bytes (c.plain_answer.ensures.message ∙ ap (λ s. message_of 0 0 s) (sym c.plain_answer.ensures.status))

pub answer_texts-requires : goal.answer_texts-requires
answer_texts-requires g c =
    subst (λ r. (command_of exact r).in_limits) (sym c.with_texts.ensures)
    (in_limits (request_text c.args.request) _ c.requires (sym c.in-Ok-None.ensures ∙ c.in-Ok-None.field-0-is))
