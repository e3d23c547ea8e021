use Rattle.std.proofs.Common.{◌∙◌, All, ap, drop, map, string_bytes, subst, sym, take}
use Rattle.std.specs.Str.{IsUtf8}
use Rattle.ask_files.specs.Files.{texts_of}
use Rattle.top_run.proofs.parts.Answering.{for_memory}
use Rattle.top_run.specs.Inside.{plain}
use Rattle.tmpl_page.proofs.answering.Cuts.{by_other_names, first_texts, last_texts}
use Rattle.tmpl_page.proofs.answering.answer_pieces.Goals as goal

pub returns-in-Ok-clause-some : goal.returns-in-Ok-clause-some
returns-in-Ok-clause-some g c =
    by_other_names _ _ _ _ _ _ _ _ _ (ap (λ words. map string_bytes words) c.deref.ensures.value ∙ c.in-Ok.ensures.ok
    ∙ ap texts_of (c.split_at.ensures.front ∙ ap (λ n. take n c.args.pieces.now) c.min.ensures)
    ∙ first_texts c.args.pieces.now c.args.count)
    (ap texts_of (c.split_at.ensures.back ∙ ap (λ n. drop n c.args.pieces.now) c.min.ensures) ∙ last_texts c.args.pieces.now c.args.count)
    c.answer.ensures.answer c.answer.ensures.output c.answer.ensures.complete c.answer.ensures.message

pub returns-in-Err-NoText-clause-none : goal.returns-in-Err-NoText-clause-none
returns-in-Err-NoText-clause-none g c = λ none all.
    c.in-Err-NoText.ensures.err c.in-Err-NoText.field-0-is (subst (All IsUtf8) (sym (ap texts_of (c.split_at.ensures.front
    ∙ ap (λ n. take n c.args.pieces.now) c.min.ensures) ∙ first_texts c.args.pieces.now c.args.count)) all)

pub returns-in-Err-NoMemory-clause-some : goal.returns-in-Err-NoMemory-clause-some
returns-in-Err-NoMemory-clause-some g c =
    for_memory _ _ plain.memory _ _ _ _ _ c.plain_answer.ensures.status c.plain_answer.ensures.bytes c.plain_answer.ensures.message
