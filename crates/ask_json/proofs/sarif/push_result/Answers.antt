use Rattle.ask_json.specs.Sarif.{finding_members}
use Rattle.ask_json.proofs.Pushed.{object_pushed}
use Rattle.ask_json.proofs.sarif.push_result.Goals as goal

pub returns : goal.returns
returns c =
    object_pushed _ _ _ (finding_members c.args.source.now.uri.now c.args.source.now.text.now c.args.source.now.names.now c.args.check.now
    c.args.verdict.now)
    c.in_ok-extend_from_slice.ensures.items c.in_ok-push_members.ensures
