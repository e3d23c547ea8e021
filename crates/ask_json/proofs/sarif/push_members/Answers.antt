use Rattle.std.specs.Prelude.{codes}
use Rattle.std.proofs.Common.{false}
use Rattle.serde_json.specs.Data.{string}
use Rattle.base_json.proofs.Pushed.{member_pushed}
use Rattle.ask_json.specs.Sarif.{placed_members}
use Rattle.ask_json.proofs.sarif.push_members.Goals as goal

pub returns : goal.returns
returns c =
    member_pushed _ _ _ false (codes "level") (string (codes "warning"))
    (placed_members c.args.source.now.uri.now c.args.source.now.text.now c.args.source.now.names.now c.args.check.now c.args.verdict.now)
    c.in_ok-push_level.ensures c.in_ok-push_placed.ensures
