use Rattle.std.proofs.Common.{subst₂, sym}
use Rattle.ask_words.specs.declared.request.Purpose.TheVariants.{Report}
use Rattle.ask_words.specs.declared.request.Request.TheVariants.{Analyse}
use Rattle.top_answer.specs.Outcomes.{Says}
use Rattle.top_texts.specs.Exact.{exact}
use Rattle.acsl_annotate.specs.Annotated.{annotating}
use Rattle.acsl_annotate.proofs.answer.Refused.{annotated_says}
use Rattle.acsl_annotate.proofs.answer.written.Goals as goal

pub returns-in-Ok-clause-says : goal.returns-in-Ok-clause-says
returns-in-Ok-clause-says c = λ analysis format text found.
    subst₂ (λ s bytes. Says (annotating exact (Analyse Report analysis format)) s bytes) (sym c.done_answer.ensures.status)
    (sym c.done_answer.ensures.bytes)
    (annotated_says analysis format _ _ _ text found c.in-Ok.ensures)
