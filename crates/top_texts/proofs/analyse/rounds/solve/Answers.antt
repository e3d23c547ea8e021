use Rattle.top_texts.proofs.analyse.rounds.solve.Goals as goal

pub returns-in-Err-clause-err : goal.returns-in-Err-clause-err
returns-in-Err-clause-err g c = λ purpose. c.halted.ensures purpose c.args.policy c.args.system.now c.in-Err.ensures.halt
