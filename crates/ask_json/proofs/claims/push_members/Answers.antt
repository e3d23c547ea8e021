use Rattle.std.specs.Prelude.{codes}
use Rattle.std.proofs.Common.{false}
use Rattle.serde_json.specs.Data.{string}
use Rattle.base_json.proofs.Pushed.{member_pushed}
use Rattle.ask_json.specs.Verdicts.{verdict_members}
use Rattle.ask_json.proofs.claims.push_members.Goals as goal

pub returns : goal.returns
returns c =
    member_pushed _ _ _ false (codes "label") (string c.args.claim.now.label) (verdict_members c.args.names.now c.args.verdict.now)
    c.in_ok-push_label.ensures c.in_ok-push_verdict.ensures
