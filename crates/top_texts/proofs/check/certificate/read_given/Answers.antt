use Rattle.std.proofs.Common.{rules}
use Rattle.ask_words.specs.Request.{source_text}
use Rattle.top_texts.specs.Outcomes.{IsUnspelt}
use Rattle.top_texts.specs.Texts.{IsAnalysed}
use Rattle.top_texts.proofs.checks.Refused.{flowless_unread, misspelt_unspelt, unread_unspelt}
use Rattle.top_texts.proofs.check.certificate.read_given.Goals as goal

pub returns-in_err-program-clause-err : goal.returns-in_err-program-clause-err
returns-in_err-program-clause-err c =
    let h : IsUnspelt (source_text c.args.source) c.args.bytes.now c.in_err-program.field-0.0 =
    unread_unspelt (source_text c.args.source) c.args.bytes.now c.in_err-program.field-0.0 c.in_err-program.ensures.err in
    search (rules, h)

pub returns-in_err-flow-clause-err : goal.returns-in_err-flow-clause-err
returns-in_err-flow-clause-err c =
    let h : IsUnspelt (source_text c.args.source) c.args.bytes.now c.in_err-flow.field-0.0 =
    unread_unspelt (source_text c.args.source) c.args.bytes.now c.in_err-flow.field-0.0
    (flowless_unread (source_text c.args.source) c.in_ok-program.program.names c.in_ok-program.program.body c.in_err-flow.field-0.0
    c.in_ok-program.ensures.ok c.in_err-flow.ensures.err) in
    search (rules, h)

pub returns-in_err-cert-clause-err : goal.returns-in_err-cert-clause-err
returns-in_err-cert-clause-err c =
    let analysed : IsAnalysed (source_text c.args.source) c.in_ok-program.program.names c.in_ok-program.program.body =
    record { has_core = c.in_ok-program.ensures.ok; within = c.in_ok-flow.ensures.within } in
    let h : IsUnspelt (source_text c.args.source) c.args.bytes.now c.in_err-cert.field-0.0 =
    misspelt_unspelt (source_text c.args.source) c.args.bytes.now c.in_ok-program.program.names c.in_ok-program.program.body
    c.in_err-cert.field-0.0 analysed c.in_err-cert.ensures.err in
    search (rules, h)
