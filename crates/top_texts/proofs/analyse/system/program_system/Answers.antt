use Rattle.std.proofs.Common.{inl, inr, rules}
use Rattle.ask_words.specs.Request.{domain_text}
use Rattle.top_texts.specs.Outcomes.{HasNoSystemOver}
use Rattle.top_texts.proofs.analyse.Systems.{system_over, too_many}
use Rattle.top_texts.proofs.analyse.system.program_system.Goals as goal

pub returns-in_err-flow-clause-err : goal.returns-in_err-flow-clause-err
returns-in_err-flow-clause-err c =
    let h : HasNoSystemOver c.args.groups.now (domain_text c.args.rows) c.args.program.now.names c.args.program.now.body
    c.in_err-flow.field-0.0 =
    inl c.in_err-flow.ensures.err in
    search (rules, h)

pub returns-in_err-template-clause-err : goal.returns-in_err-template-clause-err
returns-in_err-template-clause-err c =
    let h : HasNoSystemOver c.args.groups.now (domain_text c.args.rows) c.args.program.now.names c.args.program.now.body
    c.in_err-template.field-0.0 =
    inr (c.in_ok-flow.ensures.within, c.in_err-template.ensures.err) in
    search (rules, h)

pub returns-in_err-system-clause-err : goal.returns-in_err-system-clause-err
returns-in_err-system-clause-err c =
    let h : HasNoSystemOver c.args.groups.now (domain_text c.args.rows) c.args.program.now.names c.args.program.now.body
    c.in_err-system.field-0.0 =
    too_many c.args.groups.now (domain_text c.args.rows) c.args.program.now.names c.args.program.now.body c.in_ok-flow.flow
    c.in_ok-template.template c.in_err-system.field-0.0 c.in_ok-flow.ensures.within c.in_ok-flow.ensures.points
    c.in_ok-template.ensures.template c.in_err-system.ensures.above c.in_err-system.ensures.count in
    search (rules, h)

pub returns-clause-ok : goal.returns-clause-ok
returns-clause-ok c =
    let flow = c.in_ok-flow.ensures in
    let made = c.in_ok-system.ensures in
    system_over c.args.groups.now (domain_text c.args.rows) c.args.program.now.names c.args.program.now.body c.in_ok-flow.flow
    c.in_ok-template.template c.in_ok-system.system flow.within flow.names flow.points flow.edges
    c.in_ok-template.ensures.template made.flow made.template made.within
