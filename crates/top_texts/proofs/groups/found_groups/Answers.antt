use Rattle.std.proofs.Common.{◌∙◌, subst, sym}
use Rattle.ask_words.specs.Request.{source_text}
use Rattle.top_texts.specs.Texts.{HasCore, HasGroups}
use Rattle.top_texts.proofs.program.Told.{told_groups, told_instead}
use Rattle.top_texts.proofs.groups.found_groups.Goals as goal

pub returns-in-Ok-clause-ok : goal.returns-in-Ok-clause-ok
returns-in-Ok-clause-ok c =
    let core : HasCore (source_text c.args.program) c.as_slice.result.now c.args.core.now.body =
    subst (λ names. HasCore (source_text c.args.program) names c.args.core.now.body) (sym c.as_slice.ensures) c.requires.core in
    subst (λ names. HasGroups (source_text c.args.program) names c.in-Ok.groups) c.as_slice.ensures
    (told_groups (source_text c.args.program) c.in_ok-tokens.tokens.items c.as_slice.result.now c.in-Ok.groups c.args.core.now.body
    c.in_ok-tokens.ensures.reads core (λ front e. c.in-Ok.ensures.found front (e ∙ sym c.deref.ensures.value)))

pub returns-clause-err : goal.returns-clause-err
returns-clause-err c =
    c.source_refusal.ensures (source_text c.args.program) (λ n.
    told_instead (source_text c.args.program) c.in_ok-tokens.tokens.items c.in-Err.fault c.in_ok-tokens.ensures.reads
    (λ front e. c.in-Err.ensures.fault n front (e ∙ sym c.deref.ensures.value)))
