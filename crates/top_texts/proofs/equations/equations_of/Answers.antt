use Rattle.top_texts.proofs.equations.equations_of.Goals as goal

pub returns-in-Err-clause-err : goal.returns-in-Err-clause-err
returns-in-Err-clause-err c = λ policy limit. c.equation_refusal.ensures c.args.text.now policy limit c.in-Err.ensures.refused
