use Rattle.std.specs.Prelude.{codes}
use Rattle.std.proofs.Common.{true}
use Rattle.base_json.proofs.Pushed.{member_pushed}
use Rattle.out_json.specs.Pieces.{count}
use Rattle.ask_json.specs.Verdicts.{verdict_members}
use Rattle.ask_json.proofs.checks.push_lined.Goals as goal

pub returns : goal.returns
returns c =
    member_pushed _ _ _ true (codes "line") (count c.args.line) (verdict_members c.args.names.now c.args.verdict.now)
    c.in_ok-push_number_member.ensures c.in_ok-push_verdict.ensures
