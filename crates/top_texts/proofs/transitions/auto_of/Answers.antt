use Rattle.std.proofs.Common.{inl}
use Rattle.top_texts.proofs.transitions.auto_of.Goals as goal

pub returns-in-Err-clause-err : goal.returns-in-Err-clause-err
returns-in-Err-clause-err c = λ rows. c.auto_refusal.ensures c.args.text.now rows (λ other. inl (c.in-Err.ensures.refused other))
