use Rattle.std.proofs.Common.{rules}
use Rattle.ask_words.specs.declared.request.Purpose.TheVariants.{Report}
use Rattle.top_texts.specs.Exact.{exact}
use Rattle.ask_words.specs.Request.{domain_text}
use Rattle.top_texts.specs.Outcomes.{IsUnanswered}
use Rattle.top_texts.specs.Questions.{transitions_question}
use Rattle.top_texts.proofs.questions.Answered.{halted}
use Rattle.top_texts.proofs.transition_texts.Systems.{refused_along, report_put}
use Rattle.top_texts.proofs.transitions.transitions_text.Goals as goal

pub returns-clause-ok : goal.returns-clause-ok
returns-clause-ok g c =
    report_put c.args.text.now (domain_text c.args.rows) c.in_ok-system.system c.args.policy c.args.limit c.args.format _
    c.post_solutions_hold_along.ensures c.in_ok-system.ensures.ok c.in_ok-bytes.ensures.ok

pub returns-in_err-bytes-clause-err : goal.returns-in_err-bytes-clause-err
returns-in_err-bytes-clause-err g c =
    let h : IsUnanswered (transitions_question exact c.args.text.now (domain_text c.args.rows) c.args.policy c.args.limit)
    c.in_err-bytes.field-0.0 =
    halted (transitions_question exact c.args.text.now (domain_text c.args.rows) c.args.policy c.args.limit) Report c.in_ok-system.system
    c.in_ok-system.ensures.ok (λ excess h. h) _ (c.in_err-bytes.ensures.err Report) in
    search (rules, h)

pub returns-in_err-system-clause-err : goal.returns-in_err-system-clause-err
returns-in_err-system-clause-err g c =
    let h : IsUnanswered (transitions_question exact c.args.text.now (domain_text c.args.rows) c.args.policy c.args.limit)
    c.in_err-system.field-0.0 =
    refused_along c.args.text.now (domain_text c.args.rows) c.args.policy c.args.limit _ c.in_err-system.ensures.err in
    search (rules, h)
