use Rattle.std.proofs.Common.{refl, subst₂, sym}
use Rattle.ask_words.specs.Request.{analysis_text}
use Rattle.ask_words.specs.declared.request.Purpose.TheVariants.{Report}
use Rattle.ask_words.specs.declared.request.Request.TheVariants.{Analyse}
use Rattle.top_answer.specs.Outcomes.{Says}
use Rattle.top_texts.specs.Exact.{exact}
use Rattle.acsl_annotate.specs.Annotated.{annotating}
use Rattle.acsl_annotate.proofs.answer.Refused.{plain_names, refused_names, refused_says}
use Rattle.acsl_annotate.proofs.answer.annotated.Goals as goal

pub returns-in-Ok-clause-says : goal.returns-in-Ok-clause-says
returns-in-Ok-clause-says g c = λ format. c.written.ensures.says (analysis_text c.args.analysis) format refl c.in-Ok.ensures.ok

pub returns-in-Ok-clause-names : goal.returns-in-Ok-clause-names
returns-in-Ok-clause-names g c = λ format.
    plain_names (analysis_text c.args.analysis) format _ _ c.written.ensures.message c.written.ensures.ends

pub returns-in-Err-clause-says : goal.returns-in-Err-clause-says
returns-in-Err-clause-says g c = λ format.
    subst₂ (λ s bytes. Says (annotating exact (Analyse Report (analysis_text c.args.analysis) format)) s bytes)
    (sym c.refused_answer.ensures.status) (sym c.refused_answer.ensures.bytes)
    (refused_says (analysis_text c.args.analysis) format c.in-Err.ending.status c.in-Err.ensures.err.answer
    c.in-Err.ensures.err.unput)

pub returns-in-Err-clause-names : goal.returns-in-Err-clause-names
returns-in-Err-clause-names g c = λ format.
    refused_names (analysis_text c.args.analysis) format c.in-Err.ending _ _ c.refused_answer.ensures.status
    c.refused_answer.ensures.message c.in-Err.ensures.err
