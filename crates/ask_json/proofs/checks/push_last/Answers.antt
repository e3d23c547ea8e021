use Rattle.std.specs.Prelude.{codes}
use Rattle.std.proofs.Common.{true}
use Rattle.serde_json.specs.Data.{string}
use Rattle.base_json.proofs.Pushed.{member_pushed}
use Rattle.ask_checks.specs.Lines.{kind_text}
use Rattle.ask_json.specs.Checks.{line_members}
use Rattle.ask_json.proofs.checks.push_last.Goals as goal

pub returns : goal.returns
returns c =
    member_pushed _ _ _ true (codes "kind") (string (kind_text c.args.kind))
    (line_members c.args.line c.args.names.now c.args.verdict.now) c.in_ok-push_kind.ensures c.in_ok-push_lined.ensures
