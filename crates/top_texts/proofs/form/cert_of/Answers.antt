use Rattle.top_texts.proofs.form.cert_of.Goals as goal

pub returns-in-Err-clause-err : goal.returns-in-Err-clause-err
returns-in-Err-clause-err c = c.form_refusal.ensures c.args.bytes.now c.in-Err.ensures.err
