use Rattle.top_texts.proofs.prove.claims_of.Goals as goal

pub returns-in-Err-clause-err : goal.returns-in-Err-clause-err
returns-in-Err-clause-err c = λ text rows policy limit is. c.claim_refusal.ensures text rows c.args.given.now policy limit c.args.system.now
    is c.in-Err.ensures.found
