use Rattle.std.proofs.Common.{rules}
use Rattle.ask_words.specs.Request.{domain_text, source_text}
use Rattle.top_texts.specs.Outcomes.{IsRefusedBy}
use Rattle.top_texts.proofs.check_texts.Judged.{has_checks}
use Rattle.top_texts.proofs.checks.Refused.{systemless_refused, unread_refuses}
use Rattle.top_texts.proofs.verify.checked_on.Goals as goal

pub returns-in_err-core-clause-err : goal.returns-in_err-core-clause-err
returns-in_err-core-clause-err c =
    let h : IsRefusedBy (source_text c.args.program) (domain_text c.args.rows) c.in_err-core.field-0.0 =
    unread_refuses (source_text c.args.program) (domain_text c.args.rows) c.in_err-core.field-0.0 c.in_err-core.ensures.err in
    search (rules, h)

pub returns-in_err-groups-clause-err : goal.returns-in_err-groups-clause-err
returns-in_err-groups-clause-err c =
    let h : IsRefusedBy (source_text c.args.program) (domain_text c.args.rows) c.in_err-groups.field-0.0 =
    unread_refuses (source_text c.args.program) (domain_text c.args.rows) c.in_err-groups.field-0.0 c.in_err-groups.ensures.err in
    search (rules, h)

pub returns-in_err-system-clause-err : goal.returns-in_err-system-clause-err
returns-in_err-system-clause-err c =
    let h : IsRefusedBy (source_text c.args.program) (domain_text c.args.rows) c.in_err-system.field-0.0 =
    systemless_refused (source_text c.args.program) c.in_ok-groups.groups (domain_text c.args.rows) c.in_ok-core.core.names
    c.in_ok-core.core.body c.in_ok-groups.ensures.ok c.in_err-system.field-0.0 c.in_ok-core.ensures.ok c.in_err-system.ensures.err in
    search (rules, h)

pub returns-clause-ok : goal.returns-clause-ok
returns-clause-ok c =
    has_checks (source_text c.args.program) c.in_ok-groups.groups (domain_text c.args.rows) c.in_ok-core.core.names
    c.in_ok-core.core.body c.in_ok-system.system c.in_ok-checks.checks c.in_ok-core.ensures.ok c.in_ok-groups.ensures.ok
    c.in_ok-system.ensures.ok c.in_ok-checks.ensures c.in_ok-core.core.within_limits
