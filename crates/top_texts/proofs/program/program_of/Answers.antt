use Rattle.std.proofs.Common.{◌∙◌, sym, subst}
use Rattle.ask_words.specs.Request.{source_text}
use Rattle.top_texts.specs.Texts.{Reading}
use Rattle.top_texts.proofs.program.Told.{told_core, told_fault}
use Rattle.top_texts.proofs.program.program_of.Goals as goal

pub returns-in-Ok-clause-ok : goal.returns-in-Ok-clause-ok
returns-in-Ok-clause-ok c =
    told_core (source_text c.args.program) c.in_ok-tokens.tokens.items c.in-Ok.core c.in_ok-tokens.ensures.reads
    (λ front e. c.in-Ok.ensures.found front (e ∙ sym c.deref.ensures.value))

pub returns-clause-err : goal.returns-clause-err
returns-clause-err c =
    let told = told_fault (source_text c.args.program) c.in_ok-tokens.tokens.items c.in-Err.fault c.in_ok-tokens.ensures.reads
    (λ front e. c.in-Err.ensures.found front (e ∙ sym c.deref.ensures.value)) in
    c.source_refusal.ensures (source_text c.args.program) (λ n. subst (λ a. Reading (source_text c.args.program) a) (told.2 n) told.1)
