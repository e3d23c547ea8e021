use Rattle.std.proofs.Common.{◌∙◌, All, ap, subst, sym, take}
use Rattle.std.specs.Str.{IsUtf8}
use Rattle.ask_files.specs.Files.{texts_of}
use Rattle.top_run.proofs.parts.Answering.{for_memory}
use Rattle.top_run.specs.Inside.{plain}
use Rattle.tmpl_page.proofs.answering.answer_texts.Goals as goal

pub returns-in-Ok-clause-none : goal.returns-in-Ok-clause-none
returns-in-Ok-clause-none g c = λ none all. c.answer_pieces.ensures.none none
    (subst (λ texts. All IsUtf8 (take c.args.count texts)) (sym (ap texts_of c.deref.ensures.value ∙ c.in-Ok.ensures)) all)

pub returns-in-Err-clause-some : goal.returns-in-Err-clause-some
returns-in-Err-clause-some g c =
    for_memory _ _ plain.memory _ _ _ _ _ c.plain_answer.ensures.status c.plain_answer.ensures.bytes c.plain_answer.ensures.message
