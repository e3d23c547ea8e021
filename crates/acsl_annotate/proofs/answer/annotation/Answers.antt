use Rattle.std.proofs.Common.{◌∙◌, ◌≡◌, ap, map, string_bytes, subst}
use Rattle.ask_files.specs.Files.{texts_of}
use Rattle.top_answer.specs.Answers.{IsAnsweredBy, Ends, Holds, IsAnswer, IsMessage, IsOutput}
use Rattle.top_texts.specs.Exact.{exact}
use Rattle.acsl_annotate.specs.Annotated.{annotating}
use Rattle.acsl_annotate.specs.Messages.{saying}
use Rattle.acsl_annotate.specs.Words.{as_solve}
use Rattle.acsl_annotate.proofs.answer.annotation.Goals as goal

pub returns-in-Ok-clause-answer : goal.returns-in-Ok-clause-answer
returns-in-Ok-clause-answer g c =
    let all : map string_bytes c.deref.result.now ≡ as_solve (map string_bytes c.args.words.now) =
    ap (λ xs. map string_bytes xs) c.deref.ensures.value ∙ c.in-Ok.ensures in
    subst (λ ws. IsAnswer (annotating exact) ws (texts_of c.args.contents.now) c.annotation_as_solve.result.status) all
    c.annotation_as_solve.ensures.answer

pub returns-in-Ok-clause-output : goal.returns-in-Ok-clause-output
returns-in-Ok-clause-output g c =
    let all : map string_bytes c.deref.result.now ≡ as_solve (map string_bytes c.args.words.now) =
    ap (λ xs. map string_bytes xs) c.deref.ensures.value ∙ c.in-Ok.ensures in
    subst (λ ws. Holds (IsOutput (annotating exact) ws (texts_of c.args.contents.now)) c.annotation_as_solve.result.status
    c.annotation_as_solve.result.bytes.items) all c.annotation_as_solve.ensures.output

pub returns-in-Ok-clause-complete : goal.returns-in-Ok-clause-complete
returns-in-Ok-clause-complete g c = λ ending h.
    let all : map string_bytes c.deref.result.now ≡ as_solve (map string_bytes c.args.words.now) =
    ap (λ xs. map string_bytes xs) c.deref.ensures.value ∙ c.in-Ok.ensures in
    subst (λ ws. Ends (annotating exact) ws (texts_of c.args.contents.now) ending
    → IsAnsweredBy (annotating exact) ws (texts_of c.args.contents.now) ending c.annotation_as_solve.result.status) all
    (c.annotation_as_solve.ensures.complete ending) h

pub returns-in-Ok-clause-message : goal.returns-in-Ok-clause-message
returns-in-Ok-clause-message g c =
    let all : map string_bytes c.deref.result.now ≡ as_solve (map string_bytes c.args.words.now) =
    ap (λ xs. map string_bytes xs) c.deref.ensures.value ∙ c.in-Ok.ensures in
    subst (λ ws. IsMessage (saying exact) ws (texts_of c.args.contents.now) c.annotation_as_solve.result.status
    c.annotation_as_solve.result.message) all c.annotation_as_solve.ensures.message
