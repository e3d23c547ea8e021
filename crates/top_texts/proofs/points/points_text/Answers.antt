use Rattle.std.proofs.Common.{rules}
use Rattle.ask_words.specs.Request.{source_text}
use Rattle.top_texts.specs.Outcomes.{IsUnread}
use Rattle.top_texts.proofs.checks.Refused.{flowless_unread}
use Rattle.top_texts.proofs.points.points_text.Goals as goal

pub returns-in_err-flow-clause-err : goal.returns-in_err-flow-clause-err
returns-in_err-flow-clause-err c =
    let h : IsUnread (source_text c.args.program) c.in_err-flow.field-0.0 =
    flowless_unread (source_text c.args.program) c.in_ok-core.core.names c.in_ok-core.core.body c.in_err-flow.field-0.0
    c.in_ok-core.ensures.ok c.in_err-flow.ensures.err in
    search (rules, h)
