use Rattle.std.proofs.Common.{◌∙◌, sym}
use Rattle.top_texts.proofs.function_texts.Told.{told_fault, told_names}
use Rattle.top_texts.proofs.functions.names_of.Goals as goal

pub returns-in-Ok-names-clause-ok : goal.returns-in-Ok-names-clause-ok
returns-in-Ok-names-clause-ok c =
    told_names c.args.text.now c.in-Ok.tokens.items c.in-Ok-names.names c.in-Ok.ensures.ok
    (λ front e. c.in-Ok-names.ensures.found front (e ∙ sym c.deref.ensures.value))

pub returns-clause-err : goal.returns-clause-err
returns-clause-err c =
    let told = told_fault c.args.text.now c.in-Ok.tokens.items c.in-Err-names.fault c.in-Ok.ensures.ok
    (λ front e. c.in-Err-names.ensures.found front (e ∙ sym c.deref.ensures.value)) in
    c.file_refusal.ensures c.args.text.now told.0 told.1 told.2

pub returns-in-Err-clause-err : goal.returns-in-Err-clause-err
returns-in-Err-clause-err c = c.lex_refusal.ensures c.args.text.now c.in-Err.ensures.err
