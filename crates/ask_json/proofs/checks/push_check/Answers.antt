use Rattle.ask_json.specs.Checks.{check_members}
use Rattle.ask_json.proofs.Pushed.{object_pushed}
use Rattle.ask_json.proofs.checks.push_check.Goals as goal

pub returns : goal.returns
returns c =
    object_pushed _ _ _ (check_members c.args.text.now c.args.names.now c.args.check c.args.verdict.now)
    c.in_ok-extend_from_slice.ensures.items c.in_ok-push_members.ensures
