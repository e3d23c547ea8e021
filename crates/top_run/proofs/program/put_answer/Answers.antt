use Rattle.std.proofs.Common.{◌∙◌, ap, refl, sym}
use Rattle.top_run.specs.Parts.{is_kept, is_not_put, is_put}
use Rattle.top_status.specs.Messages.{message_of}
use Rattle.top_run.proofs.messages.Told.{untold}
use Rattle.top_run.proofs.output.Putting.{put_as}
use Rattle.top_run.proofs.program.put_answer.Goals as goal

pub returns-then-not-has_output : goal.returns-then-not-has_output
returns-then-not-has_output g c = is_kept (untold _ _ c.has_output.ensures c.if-not-has_output.true) refl refl refl

pub returns-in-Done : goal.returns-in-Done
returns-in-Done g c =
    is_put (sym c.has_output.ensures ∙ c.if-not-has_output.false) refl refl
    (put_as _ _ _ _ _ _ _ c.deref.ensures.value refl c.in-Done.ensures)

pub returns-in_default : goal.returns-in_default
returns-in_default g c =
    is_not_put (sym c.has_output.ensures ∙ c.if-not-has_output.false)
    (λ e. c.in_default.not-Done (sym c.plain_answer.ensures.status ∙ e))
    (c.plain_answer.ensures.message ∙ ap (message_of 0 0) (sym c.plain_answer.ensures.status))
    (put_as _ _ _ _ _ _ _ c.deref.ensures.value c.plain_answer.ensures.status c.put_pieces.ensures)
