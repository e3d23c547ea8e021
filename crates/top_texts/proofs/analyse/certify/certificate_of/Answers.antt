use Rattle.std.proofs.Common.{rules}
use Rattle.top_texts.specs.Outcomes.{IsHalted}
use Rattle.ask_words.specs.declared.request.Purpose.TheVariants.{Certificate}
use Rattle.top_texts.proofs.analyse.Made.{made_certified, made_halts, made_short, made_writable}
use Rattle.top_texts.proofs.analyse.certify.certificate_of.Goals as goal

pub returns-in_err-solved-clause-err : goal.returns-in_err-solved-clause-err
returns-in_err-solved-clause-err g c =
    let h : IsHalted Certificate c.args.system.now c.args.policy c.args.limit c.in_err-solved.field-0.0 =
    c.in_err-solved.ensures.err Certificate in
    search (rules, h)

pub accept-requires-clause-short : goal.accept-requires-clause-short
accept-requires-clause-short g c = made_short c.args.system.now c.in_ok-solved.solved c.in_ok-cert.cert c.in_ok-cert.ensures.cert
    c.in_ok-solved.ensures.numbered

pub returns-in_err-accept-clause-err : goal.returns-in_err-accept-clause-err
returns-in_err-accept-clause-err g c =
    let h : IsHalted Certificate c.args.system.now c.args.policy c.args.limit c.in_err-accept.field-0.0 =
    made_halts c.args.system.now c.in_ok-solved.solved c.in_ok-cert.cert c.in_ok-cert.ensures.cert c.args.policy c.args.limit
    c.in_ok-solved.ensures.solved c.in_ok-solved.ensures.valid _ c.in_err-accept.ensures.err in
    search (rules, h)

pub write-requires : goal.write-requires
write-requires g c =
    made_writable c.args.system.now c.in_ok-solved.solved c.in_ok-cert.cert c.in_ok-cert.ensures.cert c.in_ok-written.written
    c.in_ok-written.ensures c.in_ok-solved.ensures.shaped

pub returns-clause-ok : goal.returns-clause-ok
returns-clause-ok g c =
    made_certified c.args.system.now c.in_ok-solved.solved c.in_ok-cert.cert c.in_ok-cert.ensures.cert c.args.policy c.args.limit
    c.in_ok-solved.ensures.solved c.in_ok-solved.ensures.valid c.in_ok-written.written c.in_ok-written.ensures
    _ c.in_ok-cert.ensures.template c.in_ok-write.ensures.text c.in_ok-write.ensures.reads_back c.in_ok-write.ensures.expands
    c.in_ok-accept.ensures.narrow c.in_ok-solved.ensures.least
