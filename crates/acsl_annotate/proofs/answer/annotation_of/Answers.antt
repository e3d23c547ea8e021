use Rattle.std.proofs.Common.{◌∙◌, ap, subst, sym}
use Rattle.base_limits.specs.declared.limits.TheConstants.{MOST_PROGRAM_BYTES}
use Rattle.ask_files.specs.Files.{texts_of}
use Rattle.ask_words.specs.Request.{analysis_text}
use Rattle.ask_words.specs.declared.format.Format.TheVariants.{Text}
use Rattle.ask_words.specs.declared.request.Purpose.TheVariants.{Report}
use Rattle.ask_words.specs.declared.request.Request.TheVariants.{Analyse}
use Rattle.top_answer.specs.Commands.{IsWithin}
use Rattle.top_answer.proofs.commands.Table.{in_limits}
use Rattle.top_answer.specs.Outcomes.{not_read}
use Rattle.top_status.specs.Messages.{message_of}
use Rattle.acsl_annotate.proofs.answer.annotation_of.Goals as goal

pub returns-in-Ok-Some : goal.returns-in-Ok-Some
returns-in-Ok-Some g c = λ format.
    not_read c.in-Ok-Some.cause (sym c.in-Ok-Some.ensures ∙ c.in-Ok-Some.field-0-is) c.plain_answer.ensures.status
    c.plain_answer.ensures.bytes (c.plain_answer.ensures.message ∙ ap (λ s. message_of 0 0 s) (sym c.plain_answer.ensures.status))

pub annotated-requires : goal.annotated-requires
annotated-requires g c =
    subst (λ a. IsWithin MOST_PROGRAM_BYTES a) (sym c.analysis_with.ensures)
    (in_limits (Analyse Report (analysis_text c.args.analysis) Text) (texts_of c.args.contents.now) c.requires
    (sym c.in-Ok-None.ensures ∙ c.in-Ok-None.field-0-is))
