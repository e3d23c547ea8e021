use Rattle.std.specs.Prelude.{codes}
use Rattle.std.proofs.Common.{true}
use Rattle.serde_json.specs.Data.{string}
use Rattle.base_json.proofs.Pushed.{member_pushed}
use Rattle.ask_json.specs.Sarif.{message, only, rule_members}
use Rattle.ask_json.proofs.sarif.push_last.Goals as goal

pub returns : goal.returns
returns c =
    member_pushed _ _ _ true (codes "message")
    (only (codes "text") (string (message c.args.source.now.names.now c.args.check.now c.args.verdict.now)))
    (rule_members c.args.check.now.check.kind)
    c.in_ok-push_message.ensures c.in_ok-push_rule.ensures
