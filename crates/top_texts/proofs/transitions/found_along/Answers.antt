use Rattle.std.proofs.Common.{inl}
use Rattle.top_texts.proofs.transitions.found_along.Goals as goal

pub returns-in-Ok-clause-ok : goal.returns-in-Ok-clause-ok
returns-in-Ok-clause-ok c = c.in-Ok.ensures.groups c.requires.auto

pub returns-in-Err-clause-err : goal.returns-in-Err-clause-err
returns-in-Err-clause-err c = λ rows. c.auto_refusal.ensures c.args.text.now rows (λ n. inl (c.in-Err.ensures.refused n))
