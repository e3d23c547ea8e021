use Rattle.top_texts.proofs.program.flow_of.Goals as goal

pub returns-in-Err-clause-err : goal.returns-in-Err-clause-err
returns-in-Err-clause-err c = c.flow_refusal.ensures c.args.program.now.body c.in-Err.ensures.fault
