use Rattle.std.proofs.Common.{map, string_bytes, subst, subst₂, sym}
use Rattle.ask_files.specs.Files.{texts_of}
use Rattle.top_answer.specs.Answers.{IsAnsweredBy, Holds, IsAnswer, IsOutput}
use Rattle.top_answer.proofs.answers.Answered.{complete, holds, is_answer, message_is}
use Rattle.top_texts.specs.Exact.{exact}
use Rattle.acsl_annotate.specs.Annotated.{annotating}
use Rattle.acsl_annotate.proofs.answer.Lawful.{annotating_lawful}
use Rattle.acsl_annotate.proofs.answer.Said.{is_said}
use Rattle.acsl_annotate.proofs.answer.annotation_as_solve.Goals as goal

pub returns-clause-answer : goal.returns-clause-answer
returns-clause-answer g c =
    subst (λ s. IsAnswer (annotating exact) (map string_bytes c.args.words.now) (texts_of c.args.contents.now) s)
    (sym c.with_usage.ensures.status)
    (is_answer (annotating exact) annotating_lawful _ _ _ _ _ c.annotation_by.ensures)

pub returns-clause-output : goal.returns-clause-output
returns-clause-output g c =
    subst₂ (λ s bytes. Holds (IsOutput (annotating exact) (map string_bytes c.args.words.now) (texts_of c.args.contents.now)) s
    bytes) (sym c.with_usage.ensures.status) (sym c.with_usage.ensures.bytes)
    (holds (annotating exact) annotating_lawful _ _ _ _ _ c.annotation_by.ensures)

pub returns-clause-complete : goal.returns-clause-complete
returns-clause-complete g c = λ ending h.
    subst (λ s. IsAnsweredBy (annotating exact) (map string_bytes c.args.words.now) (texts_of c.args.contents.now) ending s)
    (sym c.with_usage.ensures.status)
    (complete (annotating exact) annotating_lawful _ _ _ _ _ c.annotation_by.ensures ending h)

pub returns-clause-message : goal.returns-clause-message
returns-clause-message g c = is_said _ _ _ _ _ _ c.with_usage.ensures.status c.with_usage.ensures.message
    (message_is (annotating exact) annotating_lawful _ _ _ _ _ c.annotation_by.ensures)
